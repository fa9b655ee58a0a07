-- What is written of a capture (own).
use Rattle.std.specs.Prelude.{◌≡◌, ℕ, zero, suc, min, map, ◌==◌, Bool, true, false, List, [], Option, Some, None, if◌then◌else◌, Ok}
use Rattle.std.specs.Io.KnownBytes.{Appends}
use Rattle.record_core.specs.declared.cell.Form.{Form}
use Rattle.audit_notes.specs.Folded.{folded_if}
use Rattle.audit_notes.specs.Lines.{AuditLine, has_remark, lines_text}
use Rattle.audit_notes.specs.Lines.AuditLine.{Reading}
use Rattle.audit_core.specs.Audit.{audit_lines}
use Rattle.capture_join.specs.Joined.{IsJoined, joined_lines}
use Rattle.capture_forms.specs.Captures.{capture_in}
use Rattle.capture_forms.specs.Forms.{form_of as line_form}
use Rattle.capture_forms.specs.declared.form.CaptureForm.{CaptureForm}
use Rattle.capture_forms.specs.declared.form.CaptureForm.TheVariants as forms
use Rattle.line_reading.specs.Readings.{Listed}
use Rattle.line_reading.specs.Windows.{most_margin, wider}
use Rattle.capture_invert.specs.Inverted.{inverted_edges}
use Rattle.capture_monitor.specs.Watch.{as_file, captured_by, file_readings}
use Rattle.capture_core.specs.Edges.{Captured, line_of_edges}
use Rattle.line_wave.specs.declared.Edge.{Edge}
use Rattle.capture_smooth.specs.Smooth.{smooth_edges}
use Rattle.capture_scale.specs.Scaled.{scaled_at, scaled_edges}
use Rattle.cli_choice.specs.declared.choice.CaptureReport.{CaptureReport}
use Rattle.cli_choice.specs.declared.choice.CaptureReport.TheVariants.{Readings, FromIdle, Audit}

-- the form of a capture: what is asked for, or else what its first line reports
abbrev pub form_of : Option CaptureForm → List ℕ → CaptureForm
form_of None input = line_form input
form_of (Some form) input = form

-- What is written of it: what is asked for, or else of an edge file its readings, and of a capture of another tool those from
-- where the line was first idle.
abbrev pub report_of : Option CaptureReport → CaptureForm → CaptureReport
report_of (Some report) form = report
report_of None forms.Edges = Readings
report_of None forms.Vcd = FromIdle
report_of None forms.Pin = FromIdle
report_of None forms.Csv = FromIdle

-- the name of its wire; an empty one stands for the first
abbrev pub name_of : Option (List ℕ) → List ℕ
name_of None = []
name_of (Some name) = name

-- its edges as they stand, or of a probe that turns the level of the line
abbrev pub edges_turned : Bool → List Edge → List Edge
edges_turned inverted edges = if inverted then inverted_edges edges else edges

abbrev pub turned_by : Bool → Captured → Captured
turned_by inverted c = record { edges = edges_turned inverted c.edges; end = c.end }

-- its times as they stand, by a factor of 10,000 ten-thousandths, or multiplied
abbrev pub edges_scaled : ℕ → List Edge → List Edge
edges_scaled factor edges = if factor == 10000 then edges else scaled_edges factor edges

abbrev pub end_scaled : ℕ → ℕ → ℕ
end_scaled factor end = if factor == 10000 then end else scaled_at factor end

abbrev pub scaled_by : ℕ → Captured → Captured
scaled_by factor c = record { edges = edges_scaled factor c.edges; end = end_scaled factor c.end }

-- its edges without pulses and gaps that are too short
abbrev pub edges_kept : ℕ → List Edge → List Edge
edges_kept glitch edges = if glitch == 0 then edges else smooth_edges glitch edges

abbrev pub without_short : ℕ → Captured → Captured
without_short glitch c = record { edges = edges_kept glitch c.edges; end = c.end }

-- a capture as it is read: turned, then scaled, then without what is too short
abbrev pub as_read : Bool → ℕ → ℕ → Captured → Captured
as_read inverted factor glitch c = without_short glitch (scaled_by factor (turned_by inverted c))

-- the readings of its line, or those by windows that are so much wider at either side, 300 microseconds at most
abbrev pub readings_at : ℕ → Captured → List Listed
readings_at zero c = file_readings (as_file c)
readings_at (suc n) c = captured_by (wider (min (suc n) most_margin)) c

-- these are the lines of a report of a capture with these readings
abbrev pub AreLinesOf : CaptureReport → Captured → List Listed → List AuditLine → Type 0
AreLinesOf Readings c xs lines = lines ≡ map Reading xs
AreLinesOf FromIdle c xs lines = (t : ℕ) × IsJoined (line_of_edges c.edges) c.end t × (lines ≡ joined_lines t false xs)
AreLinesOf (Audit timing strict) c xs lines = lines ≡ audit_lines timing c xs

-- a remark makes it a fault
abbrev pub is_strict : CaptureReport → Bool
is_strict (Audit timing strict) = strict
is_strict report = false

-- the same of what makes no fault
abbrev pub AreGood : CaptureReport → Captured → List Listed → List AuditLine → Type 0
AreGood report c xs lines = AreLinesOf report c xs lines × (is_strict report ≡ true → has_remark lines ≡ false)

-- the lines of the report of the capture that an input gives, by its form and the name of its wire, with a margin
abbrev pub AreHeard : CaptureForm → List ℕ → Bool → ℕ → ℕ → ℕ → CaptureReport → List ℕ → List AuditLine → Type 0
AreHeard form name inverted factor glitch margin report input lines =
    (c : Captured)
    × (capture_in form name input ≡ Ok c)
    × AreGood report (as_read inverted factor glitch c) (readings_at margin (as_read inverted factor glitch c)) lines

-- this text is that of the lines, or of their objects
abbrev pub IsShown : Form → Bool → CaptureForm → List ℕ → Bool → ℕ → ℕ → ℕ → CaptureReport → List ℕ → List ℕ → Type 0
IsShown written folds form name inverted factor glitch margin report input text =
    (lines : List AuditLine) × AreHeard form name inverted factor glitch margin report input lines × (text ≡ lines_text written (folded_if folds lines))

-- it is written, and nothing else
abbrev pub Shown : Form → Bool → CaptureForm → List ℕ → Bool → ℕ → ℕ → ℕ → CaptureReport → List ℕ → Option (List ℕ) → Option (List ℕ) → Type 0
Shown written folds form name inverted factor glitch margin report input old new = (text : List ℕ) × IsShown written folds form name inverted factor glitch margin report input text × Appends old new text

-- the lines of a report are written in a form, and nothing else, and it is known whether one is a remark
abbrev pub Reports : Form → Bool → CaptureReport → Captured → List Listed → Option (List ℕ) → Option (List ℕ) → Bool → Type 0
Reports written folds report c xs old new remarked =
    (lines : List AuditLine) × AreLinesOf report c xs lines × Appends old new (lines_text written (folded_if folds lines)) × (remarked ≡ has_remark lines)
