-- Frames of two captures beside each other (own).
use Rattle.std.specs.Prelude.{ℕ, ◌+◌, ◌&&◌, Bool, false, if◌then◌else◌, codes, List, [], ◌∷◌, Option, Some, None, is_some, not}
use Rattle.std.specs.Str.{bytes_eq}
use Rattle.capture_difference.specs.declared.row.FirstDifference.{FirstDifference}
use Rattle.capture_difference.specs.declared.row.Row.{Row as RowRead}
use Rattle.capture_difference.specs.declared.row.Row.TheVariants as rows
use Rattle.capture_frames.specs.Frames.{FrameLine, frame_as}

-- a frame of both captures, or of one of them alone
pub data Row : Type 0 where
  Both : FrameLine → FrameLine → Row
  First : FrameLine → Row
  Second : FrameLine → Row

-- without where the frames lie in memory
abbrev pub row_as : RowRead → Row
row_as (rows.Both x y) = Both (frame_as x.now) (frame_as y.now)
row_as (rows.First x) = First (frame_as x.now)
row_as (rows.Second y) = Second (frame_as y.now)

-- ---- what differs

-- one frame by its text, whatever the verdicts
abbrev pub is_one : FrameLine → FrameLine → Bool
is_one x y = bytes_eq x.text y.text

-- and by its verdict
abbrev pub is_same : FrameLine → FrameLine → Bool
is_same x y = is_one x y && bytes_eq x.verdict y.verdict

abbrev pub is_same_row : Row → Bool
is_same_row (Both x y) = is_same x y
is_same_row (First x) = false
is_same_row (Second y) = false

-- where the difference of a row lies
abbrev pub place_of : Row → List ℕ
place_of (Both x y) = codes "other-verdict"
place_of (First x) = codes "in-first"
place_of (Second y) = codes "in-second"

-- its frame, of both that of the first capture
abbrev pub frame_of : Row → FrameLine
frame_of (Both x y) = x
frame_of (First x) = x
frame_of (Second y) = y

-- the first row with a difference, and how many stand above it
pub record FirstRow : Type 0 where
  pub common : ℕ
  pub row : Row

abbrev pub difference_as : FirstDifference → FirstRow
difference_as d = record { common = d.common; row = row_as d.row }

-- of these rows, above which so many stand
abbrev pub first_from : ℕ → List Row → Option FirstRow
first_from n [] = None
first_from n (row ∷ rows) = if is_same_row row then first_from (n + 1) rows else Some (record { common = n; row = row })

-- no row has a difference
abbrev pub is_none_different : List Row → Bool
is_none_different rows = not (is_some (first_from 0 rows))
