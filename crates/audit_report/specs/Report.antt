-- The report of a capture: what its audit tells, counted (own).
use Rattle.std.specs.Prelude.{◌≡◌, ℕ, Bool, true, false, ◌||◌, List, [], ◌∷◌, Option, Result, Ok, Err}
use Rattle.std.specs.Io.KnownBytes.{Appends}
use Rattle.text_core.specs.Cut.{CutOff}
use Rattle.text_core.specs.declared.sink.WriteFault.{WriteFault}
use Rattle.line_wave.specs.declared.Edge.{Edge}
use Rattle.line_reading.specs.Readings.{Listed}
use Rattle.capture_core.specs.Edges.{Captured}
use Rattle.record_core.specs.declared.cell.Form.{Form}
use Rattle.audit_widths.specs.Lows.{place_of as edges_of}
use Rattle.audit_notes.specs.Lines.{AuditLine, has_remark}
use Rattle.audit_notes.specs.Lines.AuditLine.{Reading}
use Rattle.audit_contents.specs.Contents.{after_reading as noted, contents_of, has_fault, no_contents}
use Rattle.audit_contents.specs.declared.contents.Contents.{Contents}
use Rattle.audit_core.specs.Audit.{Tape, after, audit_lines, come_to, first_tape, heard_lines, summary_lines, tape_at}
use Rattle.audit_report.specs.declared.row.Row.{Row}
use Rattle.audit_report.specs.declared.walk.Tallied.{Tallied}
use Rattle.audit_report.specs.declared.walk.Walk.{Walk}
use Rattle.audit_report.specs.Charges.{lines_charges, no_rows, reading_charges, rows_of, rows_with}
use Rattle.audit_report.specs.Parties.{nobody}
use Rattle.audit_report.specs.Texts.{rows_text}

-- ---- the text

-- THE text of the report of a capture with these readings
abbrev pub report_text : Form → Captured → List Listed → List ℕ
report_text form c xs = rows_text form (contents_of xs) 0 (rows_of c xs)

-- the audit has a remark, or a device says what the standard has otherwise
abbrev pub has_remarks : Captured → List Listed → Bool
has_remarks c xs = has_remark (audit_lines false c xs) || has_fault (contents_of xs)

-- it is written, and it is known whether there is one; or its front is
abbrev pub WritesReport : Option (List ℕ) → Option (List ℕ) → Bool → Bool → List ℕ → Bool → Result Bool WriteFault → Type 0
WritesReport old new was is text remarked (Ok found) = Appends old new text × (is ≡ was) × (found ≡ remarked)
WritesReport old new was is text remarked (Err fault) = CutOff old new text fault × (is ≡ true)

-- ---- the same, reading by reading

pub record Kept : Type 0 where
  pub tape : Tape
  pub rows : List Row
  pub contents : Contents
  pub remarked : Bool

abbrev pub kept_of : Walk → Kept
kept_of w = record { tape = tape_at (edges_of w.cursor) w.auditor; rows = w.tally.hearer.rows; contents = w.contents; remarked = w.tally.remarked }

abbrev pub before_all : List Edge → Kept
before_all edges = record { tape = first_tape edges; rows = no_rows; contents = no_contents; remarked = false }

abbrev pub after_reading : Listed → Kept → Kept
after_reading x k = record {
  tape = after x k.tape;
  rows = rows_with (reading_charges (come_to x k.tape) x) k.rows;
  contents = noted x k.contents;
  remarked = k.remarked || has_remark (heard_lines false k.tape x);
}

-- nothing else is heard
abbrev pub after_line : AuditLine → Kept → Kept
after_line (Reading x) k = after_reading x k
after_line line k = k

abbrev pub after_lines : Kept → List AuditLine → Kept
after_lines k [] = k
after_lines k (line ∷ lines) = after_lines (after_line line k) lines

-- ---- at the end

-- what is counted, and whether the audit has a remark
pub record Whole : Type 0 where
  pub rows : List Row
  pub contents : Contents
  pub remarked : Bool

abbrev pub tallied_as : Tallied → Whole
tallied_as c = record { rows = c.rows; contents = c.contents; remarked = c.remarked }

abbrev pub with_end : ℕ → Kept → Whole
with_end end k = record {
  rows = rows_with (lines_charges nobody (summary_lines end k.tape)) k.rows;
  contents = k.contents;
  remarked = k.remarked || has_remark (summary_lines end k.tape);
}

abbrev pub report_of : Captured → List Listed → Whole
report_of c xs = record { rows = rows_of c xs; contents = contents_of xs; remarked = has_remark (audit_lines false c xs) }
