-- Laws of the frames of two captures beside each other (own).
use Rattle.std.specs.Prelude.{◌≡◌, ◌↔◌, ℕ, true, map, List, [], ◌∷◌}
use Rattle.std.specs.List.{flat_map}
use Rattle.capture_difference.specs.Aligned.{aligned}
use Rattle.capture_difference.specs.Rows.{Row, is_none_different}
use Rattle.capture_difference.specs.Rows.Row.{Both, First, Second}
use Rattle.capture_frames.specs.Frames.{FrameLine}

-- what a frame says: its text and its verdict
abbrev pub said_of : FrameLine → List ℕ × List ℕ
said_of f = (f.text, f.verdict)

-- Rows tell no difference exactly where both captures have the same frames with the same verdicts, in order.
abbrev pub NoDifferenceIsEquality : Type 0
NoDifferenceIsEquality = (xs ys : List FrameLine) → (is_none_different (aligned xs ys) ≡ true) ↔ (map said_of xs ≡ map said_of ys)

-- the frame that a row has of the first capture, and of the second
abbrev pub first_in : Row → List FrameLine
first_in (Both x y) = x ∷ []
first_in (First x) = x ∷ []
first_in (Second y) = []

abbrev pub second_in : Row → List FrameLine
second_in (Both x y) = y ∷ []
second_in (First x) = []
second_in (Second y) = y ∷ []

-- Each frame of either capture stands in one row, in order.
abbrev pub FirstIsTold : Type 0
FirstIsTold = (xs ys : List FrameLine) → flat_map first_in (aligned xs ys) ≡ xs

abbrev pub SecondIsTold : Type 0
SecondIsTold = (xs ys : List FrameLine) → flat_map second_in (aligned xs ys) ≡ ys
