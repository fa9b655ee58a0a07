-- How the frames of two captures are laid beside each other (own): those before the next frame that both have stand in one of them
-- alone, that one in both, and so on.
use Rattle.std.specs.Prelude.{ℕ, zero, suc, ◌+◌, Bool, false, if◌then◌else◌, map, length, take, drop, slice_get, List, [], ◌∷◌, ◌++◌, Option, Some, None}
use Rattle.capture_difference.specs.Rows.{Row, is_one}
use Rattle.capture_difference.specs.Rows.Row.{Both, First, Second}
use Rattle.capture_difference.specs.declared.nearest.Meeting.{Meeting}
use Rattle.capture_frames.specs.Frames.{FrameLine}

-- ---- the next frame of both

abbrev pub are_one : Option FrameLine → Option FrameLine → Bool
are_one None other = false
are_one (Some x) None = false
are_one (Some x) (Some y) = is_one x y

-- one frame stands at these places
abbrev pub meets_at : List FrameLine → List FrameLine → ℕ → ℕ → Bool
meets_at xs ys i j = are_one (slice_get xs i) (slice_get ys j)

abbrev pub met_or : Bool → ℕ → ℕ → Option Meeting → Option Meeting
met_or met i j further = if met then Some (record { first = i; second = j }) else further

-- from a place of each on, each time one further in the first and one less far in the second
abbrev pub meeting_from : List FrameLine → List FrameLine → ℕ → ℕ → Option Meeting
meeting_from xs ys i zero = met_or (meets_at xs ys i zero) i zero None
meeting_from xs ys i (suc j) = met_or (meets_at xs ys i (suc j)) i (suc j) (meeting_from xs ys (i + 1) j)

abbrev pub or_further : Option Meeting → Option Meeting → Option Meeting
or_further None further = further
or_further (Some m) further = Some m

-- with so many frames before it in the two together, or one more, so often
abbrev pub nearest_from : List FrameLine → List FrameLine → ℕ → ℕ → Option Meeting
nearest_from xs ys zero steps = None
nearest_from xs ys (suc left) steps = or_further (meeting_from xs ys 0 steps) (nearest_from xs ys left (steps + 1))

-- THE next frame of both: before it the fewest stand in the two together, and of such the fewest in the first
abbrev pub nearest : List FrameLine → List FrameLine → Option Meeting
nearest xs ys = nearest_from xs ys (length xs + length ys) 0

-- ---- rows

abbrev pub alone : List FrameLine → List FrameLine → List Row
alone xs ys = map First xs ++ map Second ys

abbrev pub met : Option FrameLine → Option FrameLine → List Row
met None None = []
met None (Some y) = Second y ∷ []
met (Some x) None = First x ∷ []
met (Some x) (Some y) = Both x y ∷ []

-- up to the next frame of both
abbrev pub up_to : List FrameLine → List FrameLine → Meeting → List Row
up_to xs ys m = alone (take m.first xs) (take m.second ys) ++ met (slice_get xs m.first) (slice_get ys m.second)

-- what stands after so many and one more
abbrev pub past : ℕ → List FrameLine → List FrameLine
past n xs = drop 1 (drop n xs)

abbrev pub go_on : (List FrameLine → List FrameLine → List Row) → List FrameLine → List FrameLine → Option Meeting → List Row
go_on rest xs ys None = alone xs ys
go_on rest xs ys (Some m) = up_to xs ys m ++ rest (past m.first xs) (past m.second ys)

-- with so many frames of both at most
abbrev pub aligned_by : ℕ → List FrameLine → List FrameLine → List Row
aligned_by zero xs ys = alone xs ys
aligned_by (suc n) xs ys = go_on (aligned_by n) xs ys (nearest xs ys)

-- THE rows of two captures
abbrev pub aligned : List FrameLine → List FrameLine → List Row
aligned xs ys = aligned_by (length xs) xs ys
