-- A reading as a record, and the lines that stand for several readings (own).
use Rattle.std.specs.Prelude.{ℕ, List, [], ◌∷◌, codes}
use Rattle.line_frames.specs.declared.Reading.{Reading}
use Rattle.message_text.specs.ReadingText.{reading_line}
use Rattle.record_core.specs.Cells.{PlainCell, both}
use Rattle.record_core.specs.Values.{number, text}
use Rattle.record_core.specs.Records.{object_of, record_text}
use Rattle.record_core.specs.declared.cell.Form.{Form}
use Rattle.record_core.specs.declared.cell.Form.TheVariants.{Text, Json}
use Rattle.reading_record.specs.Reading.{begun_cells, reading_cells}
use Rattle.audit_notes.specs.declared.reading.BadStartRun.{BadStartRun}
use Rattle.audit_notes.specs.declared.reading.ReadingGroup.{ReadingGroup}
use Rattle.audit_notes.specs.declared.reading.ReadingGroup.TheVariants.{Joined, BadStarts}

-- the line of a reading, or its object
abbrev pub reading_text : Form → Reading → List ℕ
reading_text Text r = reading_line r
reading_text Json r = object_of (codes "reading") (reading_cells r)

-- ---- lines that stand for several

-- those that begin before a capture joined the line: `0 7200 joined -`
abbrev pub joined_cells : ℕ → List PlainCell
joined_cells t = begun_cells 0 t (codes "joined") (both (codes " ") (codes "bits") (text (codes "-")) ∷ [])

-- bad starts one after another: `1000 9000 bad-starts 7`
abbrev pub run_cells : BadStartRun → List PlainCell
run_cells r = begun_cells r.from r.to (codes "bad-starts") (both (codes " ") (codes "count") (number r.count) ∷ [])

abbrev pub group_cells : ReadingGroup → List PlainCell
group_cells (Joined t) = joined_cells t
group_cells (BadStarts r) = run_cells r

abbrev pub group_text : Form → ReadingGroup → List ℕ
group_text form group = record_text form (codes "reading") (group_cells group)
