-- Worked rows: the slots of two frames, and which of them wins.
use Rattle.std.specs.Prelude.{◌≡◌, [], ◌∷◌, true, false, refl}
use Rattle.line_frames.specs.Bits.{frame_bits, comes_before, winners_of}

-- 40, a poll from 4 to 0
poll_row : frame_bits (64 ∷ []) ≡ false ∷ true ∷ false ∷ false ∷ false ∷ false ∷ false ∷ false ∷ true ∷ true ∷ []
poll_row = refl

-- 40 04, Image View On from 4, wins over 50 8F, Give Device Power Status from 5, whichever comes first
view_row : winners_of ((80 ∷ 143 ∷ []) ∷ (64 ∷ 4 ∷ []) ∷ []) ≡ 1 ∷ []
view_row = refl

-- equal frames win together
both_row : winners_of ((64 ∷ 4 ∷ []) ∷ (80 ∷ 143 ∷ []) ∷ (64 ∷ 4 ∷ []) ∷ []) ≡ 0 ∷ 2 ∷ []
both_row = refl

-- of two frames with the same first block the longer one wins: its end-of-message bit is a 0
longer_row : comes_before (frame_bits (64 ∷ 4 ∷ [])) (frame_bits (64 ∷ [])) ≡ true
longer_row = refl
