use Rattle.std.proofs.Common.{ap, sym}
use Rattle.audit_core.specs.Lines.{noted}
use Rattle.audit_core.proofs.Writing.{heard_as}
use Rattle.audit_core.proofs.lines.hear_noted.Goals as goal

pub returns : goal.returns
returns g c = heard_as g.H.LineHearer.hears c.args.out.now c.note.new.self _ _ (ap noted (sym c.in-Some.is)) c.note.ensures
