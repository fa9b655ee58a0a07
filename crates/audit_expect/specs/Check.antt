-- What a check of a capture answers: the report of its expectations by its readings (own).
use Rattle.std.specs.Prelude.{◌≡◌, ℕ, ◌<◌, Bool, true, false, List, length, take, Option, Some, None, Result, Ok, Err}
use Rattle.std.specs.Io.KnownBytes.{Appends}
use Rattle.capture_core.specs.Edges.{Captured}
use Rattle.expect_run.specs.Check.{tally_of}
use Rattle.expect_remarks.specs.Kept.{audit_remarks}
use Rattle.record_core.specs.declared.cell.Form.{Form}
use Rattle.expect_run.specs.Report.{Report, report_with_plan, tests}
use Rattle.expect_run.specs.declared.checking.Tally.{Tally}
use Rattle.audit_expect.specs.Faults.{first_fault}
use Rattle.audit_expect.specs.Marks.{capture_told, no_states}
use Rattle.audit_expect.specs.Wanted.{plain_text, with_wanted_lines}
use Rattle.text_core.specs.Lines.{lines_of}
use Rattle.audit_expect.specs.declared.checking.CaptureCheckError.{CaptureCheckError}
use Rattle.audit_expect.specs.declared.checking.CaptureCheckError.TheVariants.{Expect, Write, Memory}

-- the tests of expectations of readings, by what is judged of a capture
abbrev pub reading_tests : Form → List ℕ → Captured → Report
reading_tests form text capture = tests form text (capture_told form text capture) (no_states text) (no_states text)

-- the report of expectations: after those of readings stand those of the remarks of the capture's audit
abbrev pub capture_report : Form → List ℕ → Captured → Report
capture_report form text capture = report_with_plan form (with_wanted_lines form (audit_remarks capture) (reading_tests form (plain_text text) capture) 1 (lines_of text))

-- no line is at fault, and the report is written
pub record IsCaptureChecked (form : Form) (text : List ℕ) (capture : Captured) (old new : Option (List ℕ)) (tally : Tally) : Type 0 where
  pub accepted : first_fault text ≡ None
  pub tally_is : tally ≡ tally_of (capture_report form text capture).verdicts
  pub written : Appends old new (capture_report form text capture).text

-- when each refusal comes; of memory nothing is said
abbrev pub IsCaptureReported : List ℕ → CaptureCheckError → Type 0
IsCaptureReported text (Expect fault) = first_fault text ≡ Some fault
IsCaptureReported text (Write count) = first_fault text ≡ None
IsCaptureReported text Memory = Unit {0}

-- what a refusal has written: after a failed write the front of the report, as long as it reports, and else nothing
abbrev pub IsCaptureCut : Form → List ℕ → Captured → Option (List ℕ) → Option (List ℕ) → CaptureCheckError → Type 0
IsCaptureCut form text capture old new (Expect fault) = new ≡ old
IsCaptureCut form text capture old new (Write count) = (count < length (capture_report form text capture).text) × Appends old new (take count (capture_report form text capture).text)
IsCaptureCut form text capture old new Memory = new ≡ old

abbrev pub is_write : Result Tally CaptureCheckError → Bool
is_write (Ok tally) = false
is_write (Err (Expect fault)) = false
is_write (Err (Write count)) = true
is_write (Err Memory) = false
