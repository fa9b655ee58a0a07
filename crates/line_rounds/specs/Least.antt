-- The least of frames, bit by bit (arbitration, CEC 9).
use Rattle.std.specs.Prelude.{◌≡◌, ℕ, true, false, List}
use Rattle.line_frames.specs.Bits.{comes_before, frame_bits, least_among}
use Rattle.line_rounds.specs.Elements.{In}

-- a frame that no other comes before
pub record Least (frames : List (List ℕ)) : Type 0 where
  pub frame : List ℕ
  pub one : In frame frames
  pub least : (g : List ℕ) → In g frames → comes_before (frame_bits g) (frame_bits frame) ≡ false

-- of frames there is one that no other comes before
abbrev pub LeastOf : Type 0
LeastOf = (fs : List (List ℕ)) (c : List ℕ) → In c fs → Least fs

-- it is least among them
abbrev pub IsLeast : Type 0
IsLeast = (frames : List (List ℕ)) (l : Least frames) → least_among frames l.frame ≡ true
