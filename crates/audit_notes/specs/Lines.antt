-- The lines of an audit, or of readings, as values (own), and their text.
use Rattle.std.specs.Prelude.{ℕ, Bool, false, List}
use Rattle.std.specs.List.{flat_map, list_any}
use Rattle.line_reading.specs.Readings.{Listed}
use Rattle.capture_monitor.specs.Watch.{reading_as}
use Rattle.record_core.specs.declared.cell.Form.{Form}
use Rattle.audit_notes.specs.declared.note.AuditNote.{AuditNote}
use Rattle.audit_notes.specs.declared.reading.ReadingGroup.{ReadingGroup}
use Rattle.audit_notes.specs.Kinds.{is_remark}
use Rattle.audit_notes.specs.Notes.{kind_of, note_text, word_text}
use Rattle.audit_notes.specs.Readings.{group_text, reading_text}

-- a reading, several, what the standard calls what a reading leaves as bytes, or what else is said
pub data AuditLine : Type 0 where
  Reading : Listed → AuditLine
  Group : ReadingGroup → AuditLine
  Word : List ℕ → AuditLine
  Note : AuditNote → AuditLine

abbrev pub line_text : Form → AuditLine → List ℕ
line_text form (Reading x) = reading_text form (reading_as x)
line_text form (Group group) = group_text form group
line_text form (Word word) = word_text form word
line_text form (Note note) = note_text form note

-- THE text of lines, or of their objects
abbrev pub lines_text : Form → List AuditLine → List ℕ
lines_text form lines = flat_map (line_text form) lines

-- the standard has something otherwise
abbrev pub says_remark : AuditLine → Bool
says_remark (Note note) = is_remark (kind_of note)
says_remark line = false

abbrev pub has_remark : List AuditLine → Bool
has_remark lines = list_any says_remark lines
