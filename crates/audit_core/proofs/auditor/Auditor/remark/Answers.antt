use Rattle.std.proofs.Common.{◌≡◌, List, subst₂}
use Rattle.line_wave.specs.declared.Edge.{Edge}
use Rattle.line_frames.specs.declared.Reading.{Reading}
use Rattle.line_reading.specs.Reports.{listed_as}
use Rattle.audit_core.specs.Audit.{remark_lines, tape_after, tape_at}
use Rattle.audit_core.proofs.auditor.Auditor.remark.Goals as goal

pub returns-clause-kept : goal.returns-clause-kept
returns-clause-kept g c =
    subst₂ (λ (edges : List Edge) (reading : Reading). tape_at edges c.note.new.self ≡ tape_after (listed_as reading) (tape_at edges c.args.self.now)) c.new-heard.ensures.edges c.new-heard.ensures.reading c.note.ensures

pub returns-clause-written : goal.returns-clause-written
returns-clause-written g c =
    subst₂ (λ (edges : List Edge) (reading : Reading). g.H.LineHearer.hears c.args.out.now (remark_lines c.args.timing (tape_at edges c.args.self.now) (listed_as reading)) c.hear_remarks.new.out)
    c.new-heard.ensures.edges c.new-heard.ensures.reading c.hear_remarks.ensures
