-- What stands below a test that failed (Test Anything Protocol, version 13: a remark begins with `#`): lines of a trace as remarks, or the
-- objects of these.
use Rattle.std.specs.Prelude.{◌≡◌, ℕ, List, ◌∷◌, ◌++◌, codes, drop}
use Rattle.line_frames.specs.declared.Reading.{Reading}
use Rattle.line_rounds.specs.declared.Outcome.{Outcome}
use Rattle.device_core.specs.State.{State}
use Rattle.reading_record.specs.Reading.{reading_cells}
use Rattle.record_core.specs.Cells.{PlainCell, line_only}
use Rattle.record_core.specs.Records.{record_text}
use Rattle.record_core.specs.Values.{nothing}
use Rattle.record_core.specs.declared.cell.Form.{Form}
use Rattle.record_core.specs.declared.cell.Form.TheVariants.{Text, Json}
use Rattle.room_trace.specs.Records.{round_text}

-- what stands before the line, in its object too
abbrev pub mark : Form → List ℕ
mark Text = codes "# "
mark Json = codes "{\"line\":\"# "

-- and after that: the line, or its object without `{"line":"`
abbrev pub after_mark : Form → List ℕ → List ℕ
after_mark Text line = line
after_mark Json object = drop 9 object

abbrev pub marked : Form → List ℕ → List ℕ
marked form text = mark form ++ after_mark form text

abbrev pub round_shown : Form → List State → Outcome → List ℕ
round_shown form devices o = marked form (round_text form devices o)

abbrev pub reading_shown : Form → Reading → List ℕ
reading_shown form r = marked form (record_text form (codes "reading") (reading_cells r))

-- what is marked is the record with one cell before the others
abbrev pub MarkedRecordsAreRecords : Type 0
MarkedRecordsAreRecords = (form : Form) (kind : List ℕ) (cells : List PlainCell)
    → marked form (record_text form kind cells) ≡ record_text form kind (line_only (codes "# ") nothing ∷ cells)
