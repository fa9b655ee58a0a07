use Rattle.std.proofs.Common.{rules, ◌≡◌, ◌∷◌, map, subst, sym}
use Rattle.text_core.specs.Adds.{Adds}
use Rattle.capture_wires.proofs.Noting.{then}
use Rattle.capture_wires.specs.Noted.{note_at, noted, notes_at}
use Rattle.capture_wires.proofs.noted.+add_notes_at.Goals as goal

pub returns : goal.returns
returns g t c =
    let split : c.args.notes.now ≡ c.in-Some.note.now ∷ c.in-Some.others.now = search rules in
    subst (λ notes. Adds c.args.out.now c.add_notes_at.new.out (notes_at c.args.t (map noted notes))) (sym split)
    (then _ _ _ (note_at c.args.t (noted c.in-Some.note.now)) (notes_at c.args.t (map noted c.in-Some.others.now)) c.add_note_at.ensures c.add_notes_at.ensures)
