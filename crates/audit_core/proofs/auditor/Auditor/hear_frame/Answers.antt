use Rattle.std.proofs.Common.{refl}
use Rattle.audit_core.proofs.Writing.{heard_as}
use Rattle.audit_core.proofs.auditor.Auditor.hear_frame.Goals as goal

pub returns : goal.returns
returns g c =
    let both = g.met.H.LineHearer.then in
    heard_as g.H.LineHearer.hears c.args.out.now c.hear_noted-3.new.out _ _
    (rw (c.moved_note.ensures, c.receivers_note.ensures, c.operands_note.ensures, c.sender.ensures.value, c.moved_from.ensures, c.missed_receivers.ensures, c.missing_operands.ensures) refl)
    (both c.args.out.now c.hear_noted-2.new.out c.hear_noted-3.new.out _ _
    (both c.args.out.now c.hear_noted.new.out c.hear_noted-2.new.out _ _ c.hear_noted.ensures c.hear_noted-2.ensures) c.hear_noted-3.ensures)
