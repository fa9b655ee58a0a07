use Rattle.std.proofs.Common.{refl}
use Rattle.audit_core.proofs.Writing.{heard_as}
use Rattle.audit_core.proofs.auditor.hear_read.Goals as goal

pub returns : goal.returns
returns g c =
    heard_as g.H.LineHearer.hears c.args.out.now c.hear_named.new.out _ _ (rw (c.head_note.ensures, c.head_read.ensures, c.named_of.ensures, c.deref.ensures.0) refl)
    (g.met.H.LineHearer.then c.args.out.now c.hear_noted.new.out c.hear_named.new.out _ _ c.hear_noted.ensures c.hear_named.ensures)
