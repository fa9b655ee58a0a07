-- The lines of the difference of two captures (own).
use Rattle.std.specs.Prelude.{ℕ, ◌++◌, Bool, if◌then◌else◌, codes, length, List, [], ◌∷◌, Option, Some, None}
use Rattle.std.specs.List.{flat_map}
use Rattle.record_core.specs.Cells.{both}
use Rattle.record_core.specs.Records.{record_text}
use Rattle.record_core.specs.Values.{number, text}
use Rattle.record_core.specs.declared.cell.Form.{Form}
use Rattle.capture_difference.specs.Rows.{FirstRow, Row, first_from, frame_of, is_same, place_of}
use Rattle.capture_difference.specs.Rows.Row.{Both, First, Second}
use Rattle.capture_frames.specs.Frames.{FrameLine}

-- ---- a row

-- a frame of both, and when it begins in each
abbrev pub both_text : Form → ℕ → ℕ → List ℕ → List ℕ → List ℕ
both_text form first_begin second_begin frame verdict =
    record_text form (codes "common") (
    both (codes "in-both ") (codes "first_begin") (number first_begin) ∷ both (codes " ") (codes "second_begin") (number second_begin)
    ∷ both (codes " ") (codes "frame") (text frame) ∷ both (codes " ") (codes "verdict") (text verdict) ∷ []
    )

-- with another verdict in the second
abbrev pub verdicts_text : Form → ℕ → ℕ → List ℕ → List ℕ → List ℕ → List ℕ
verdicts_text form first_begin second_begin frame first_verdict second_verdict =
    record_text form (codes "verdicts") (
    both (codes "other-verdict ") (codes "first_begin") (number first_begin) ∷ both (codes " ") (codes "second_begin") (number second_begin)
    ∷ both (codes " ") (codes "frame") (text frame) ∷ both (codes " ") (codes "first_verdict") (text first_verdict)
    ∷ both (codes " ") (codes "second_verdict") (text second_verdict) ∷ []
    )

-- of one of them alone
abbrev pub alone_text : Form → List ℕ → ℕ → ℕ → List ℕ → List ℕ → List ℕ
alone_text form place begin close frame verdict =
    record_text form (codes "alone") (
    both [] (codes "place") (text place) ∷ both (codes " ") (codes "begin") (number begin) ∷ both (codes " ") (codes "close") (number close)
    ∷ both (codes " ") (codes "frame") (text frame) ∷ both (codes " ") (codes "verdict") (text verdict) ∷ []
    )

abbrev pub only_text : Form → List ℕ → FrameLine → List ℕ
only_text form place f = alone_text form place f.begin f.close f.text f.verdict

abbrev pub pair_text : Form → FrameLine → FrameLine → List ℕ
pair_text form x y =
    if is_same x y then both_text form x.begin y.begin x.text x.verdict
    else verdicts_text form x.begin y.begin x.text x.verdict y.verdict

abbrev pub row_text : Form → Row → List ℕ
row_text form (Both x y) = pair_text form x y
row_text form (First x) = only_text form (codes "in-first") x
row_text form (Second y) = only_text form (codes "in-second") y

-- ---- the first line

-- both have the same frames with the same verdicts, so many
abbrev pub same_text : Form → ℕ → List ℕ
same_text form count = record_text form (codes "alike") (both (codes "same-frames ") (codes "frames") (number count) ∷ [])

-- after so many that both have alike, where the difference lies, and of which frame
abbrev pub differs_text : Form → ℕ → List ℕ → ℕ → List ℕ → List ℕ → List ℕ
differs_text form common place begin frame verdict =
    record_text form (codes "differs") (
    both (codes "first-difference after ") (codes "common") (number common) ∷ both (codes " ") (codes "place") (text place)
    ∷ both (codes " ") (codes "begin") (number begin) ∷ both (codes " ") (codes "frame") (text frame) ∷ both (codes " ") (codes "verdict") (text verdict) ∷ []
    )

abbrev pub first_by : Form → ℕ → List ℕ → FrameLine → List ℕ
first_by form common place f = differs_text form common place f.begin f.text f.verdict

abbrev pub first_text : Form → FirstRow → List ℕ
first_text form d = first_by form d.common (place_of d.row) (frame_of d.row)

abbrev pub head_text : Form → ℕ → Option FirstRow → List ℕ
head_text form count None = same_text form count
head_text form count (Some d) = first_text form d

-- ---- all

-- the first line, and a line for each row
abbrev pub difference_text : Form → List Row → List ℕ
difference_text form rows = head_text form (length rows) (first_from 0 rows) ++ flat_map (row_text form) rows
