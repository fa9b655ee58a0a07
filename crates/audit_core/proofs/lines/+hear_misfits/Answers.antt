use Rattle.std.proofs.Common.{◌≡◌, ℕ, ◌+◌, ◌≤◌, Bool, List, [], ◌∷◌, ◌++◌, length, get_or, drop, option_map, refl, arith}
use Rattle.std.proofs.lemmas.List.{take_rest}
use Rattle.line_frames.specs.declared.Ending.{Ending}
use Rattle.audit_widths.specs.declared.low.Low.{Low}
use Rattle.audit_notes.specs.declared.note.AuditNote.TheVariants.{Misfit}
use Rattle.audit_core.specs.Lines.{misfit_lines, noted, slot_by, slot_low, slot_total}
use Rattle.audit_core.specs.declared.lines.LastSlot.{LastSlot}
use Rattle.audit_core.proofs.Writing.{heard_as}
use Rattle.audit_core.proofs.lines.+hear_misfits.Goals as goal

-- a slot, and the rest
misfits_more : (last : LastSlot) (ending : Ending) (bits : List Bool) (slot : ℕ) (lows : List Low) (none : Low) → 1 ≤ length lows
    → noted (option_map Misfit (slot_low (slot_by last (length (drop 1 lows))) bits slot (get_or lows 0 none))) ++ noted (option_map Misfit (slot_total (slot_by last (length (drop 1 lows))) ending bits slot (get_or lows 0 none))) ++ misfit_lines last ending bits (slot + 1) (drop 1 lows)
    ≡ misfit_lines last ending bits slot lows
misfits_more last ending bits slot [] none h = absurd (omega arith)
misfits_more last ending bits slot (low ∷ lows) none h = refl

pub returns : goal.returns
returns g t c =
    heard_as g.H.LineHearer.hears c.args.out.now c.hear_misfits.new.out _ _
    (rw (c.misfit_note.ensures, c.misfit_note-2.ensures, c.slot_low.ensures, c.slot_total.ensures, c.slot_by-own.ensures, take_rest) (misfits_more c.args.last c.args.ending c.args.bits.now c.args.slot c.args.lows.now _ c.in-len1-up.len_at_least))
    (g.met.H.LineHearer.then c.args.out.now c.hear_noted-2.new.out c.hear_misfits.new.out _ _
    (g.met.H.LineHearer.then c.args.out.now c.hear_noted.new.out c.hear_noted-2.new.out _ _ c.hear_noted.ensures c.hear_noted-2.ensures) c.hear_misfits.ensures)
