use Rattle.std.proofs.Common.{append-nil, sym}
use Rattle.line_reading.specs.Reports.{listed_as}
use Rattle.audit_core.specs.Audit.{heard_lines, tape_of}
use Rattle.audit_core.proofs.Writing.{heard_as}
use Rattle.audit_core.proofs.whole.WholeAudit.hear.Goals as goal

pub returns-clause-written : goal.returns-clause-written
returns-clause-written g c =
    rw c.in-Some.is (heard_as g.H.LineHearer.hears c.args.out.now c.report.new.out _ _ (sym (append-nil (heard_lines c.args.timing (tape_of c.args.self.now) (listed_as c.in-Some.reading)))) c.report.ensures.written)
