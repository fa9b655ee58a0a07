-- What is said of a whole capture, in place of its readings (own).
use Rattle.std.specs.Prelude.{◌≡◌, ℕ, min, Bool, true, false, List, Option, Ok}
use Rattle.std.specs.Io.KnownBytes.{Appends}
use Rattle.audit_report.specs.Report.{has_remarks, report_text}
use Rattle.capture_as_test.specs.Written.{test_text}
use Rattle.capture_core.specs.Edges.{Captured}
use Rattle.capture_forms.specs.Captures.{capture_in}
use Rattle.capture_replay.specs.Replay.{replay_text}
use Rattle.capture_verdict.specs.Verdicts.{IsVerdict}
use Rattle.capture_verdict.specs.Texts.{verdict_text}
use Rattle.capture_verdict.specs.declared.verdict.Verdict.{Verdict}
use Rattle.record_core.specs.declared.cell.Form.{Form}
use Rattle.cli_choice.specs.declared.choice.CaptureSummary.{CaptureSummary}
use Rattle.cli_choice.specs.declared.choice.CaptureSummary.TheVariants as summaries
use Rattle.cli_choice.specs.declared.choice.SummaryChoice.{SummaryChoice}
use Rattle.program_captures.specs.Captures.{as_read, form_of, readings_at}

-- its devices; where it is strict, its audit has no remark, and no device says what the standard has otherwise
abbrev pub AreDevices : ℕ → Bool → Form → Captured → List ℕ → Type 0
AreDevices margin strict written c text =
    (text ≡ report_text written c (readings_at margin c)) × (strict ≡ true → has_remarks c (readings_at margin c) ≡ false)

-- what it looks like
abbrev pub IsVerdictText : Form → Captured → List ℕ → Type 0
IsVerdictText written c text = (v : Verdict) × IsVerdict c v × (text ≡ verdict_text written v)

-- This text is what is said of it: its devices, what it looks like, expectations that it meets, or what one device drove.
abbrev pub IsSummary : CaptureSummary → ℕ → Bool → Form → Captured → List ℕ → Type 0
IsSummary summaries.Devices margin strict written c text = AreDevices margin strict written c text
IsSummary summaries.Verdict margin strict written c text = IsVerdictText written c text
IsSummary summaries.Test margin strict written c text = text ≡ test_text c
IsSummary (summaries.Replay address) margin strict written c text = text ≡ replay_text (min address 15) c

-- the same of the capture that an input gives, by its form and the name of its wire
abbrev pub IsSummedUp : SummaryChoice → List ℕ → List ℕ → List ℕ → Type 0
IsSummedUp choice name input text =
    (c : Captured)
    × (capture_in (form_of choice.form input) name input ≡ Ok c)
    × IsSummary choice.summary choice.margin choice.strict choice.written (as_read choice.inverted choice.scale choice.glitch c) text

-- each of them is written, and nothing else
abbrev pub WritesDevices : ℕ → Bool → Form → Captured → Option (List ℕ) → Option (List ℕ) → Type 0
WritesDevices margin strict written c old new = (text : List ℕ) × AreDevices margin strict written c text × Appends old new text

abbrev pub WritesVerdict : Form → Captured → Option (List ℕ) → Option (List ℕ) → Type 0
WritesVerdict written c old new = (text : List ℕ) × IsVerdictText written c text × Appends old new text

abbrev pub Summarizes : CaptureSummary → ℕ → Bool → Form → Captured → Option (List ℕ) → Option (List ℕ) → Type 0
Summarizes summary margin strict written c old new = (text : List ℕ) × IsSummary summary margin strict written c text × Appends old new text

abbrev pub WritesSummary : SummaryChoice → List ℕ → List ℕ → Option (List ℕ) → Option (List ℕ) → Type 0
WritesSummary choice name input old new = (text : List ℕ) × IsSummedUp choice name input text × Appends old new text
