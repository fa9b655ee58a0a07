-- The line of one extension, and those of the others.
use Rattle.std.proofs.Common.{◌≡◌, refl, ℕ, zero, suc, ◌+◌, ◌-◌, ◌<◌, arith, List, ◌++◌, take, drop, ap, sym, subst, ◌∙◌}
use Rattle.text_core.proofs.Adding.{then}
use Rattle.text_core.specs.Adds.{Adds, Tally}
use Rattle.edid_as_source.specs.Notes.{block_note, blocks_notes, room_after}

notes_of : (room number count : ℕ) (rest : List ℕ) → 0 < count
    → blocks_notes room number count rest ≡ block_note room number (take 128 rest) ++ blocks_notes (room_after room (take 128 rest)) (number + 1) (count - 1) (drop 128 rest)
notes_of room number zero rest h = absurd (omega (arith, h))
notes_of room number (suc count) rest h = let less : suc count - 1 ≡ count = omega arith in rw less refl

pub one_more : (a b c : Tally) (room number count next : ℕ) (rest block after : List ℕ) → 0 < count → block ≡ take 128 rest → after ≡ drop 128 rest → next ≡ room_after room block
    → Adds a b (block_note room number block) → Adds b c (blocks_notes next (number + 1) (count - 1) after) → Adds a c (blocks_notes room number count rest)
one_more a b c room number count next rest block after h e f n first later =
    let begins : block_note room number block ≡ block_note room number (take 128 rest) = ap (block_note room number) e in
    let left : next ≡ room_after room (take 128 rest) = n ∙ ap (room_after room) e in
    let goes : blocks_notes next (number + 1) (count - 1) after ≡ blocks_notes (room_after room (take 128 rest)) (number + 1) (count - 1) (drop 128 rest) =
    ap (λ k. blocks_notes k (number + 1) (count - 1) after) left ∙ ap (blocks_notes (room_after room (take 128 rest)) (number + 1) (count - 1)) f in
    subst (λ t. Adds a c t) (sym (notes_of room number count rest h))
    (then a b c (block_note room number (take 128 rest)) (blocks_notes (room_after room (take 128 rest)) (number + 1) (count - 1) (drop 128 rest))
    (subst (λ t. Adds a b t) begins first) (subst (λ t. Adds b c t) goes later))
