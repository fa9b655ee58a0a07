-- What is written of a test of a capture (own): expectations, and a capture.
use Rattle.std.specs.Prelude.{◌≡◌, ℕ, not, length, filter, List, Option, None, Ok}
use Rattle.std.specs.Io.KnownBytes.{Appends}
use Rattle.record_core.specs.declared.cell.Form.{Form}
use Rattle.audit_expect.specs.Check.{capture_report}
use Rattle.audit_expect.specs.Faults.{first_fault}
use Rattle.capture_forms.specs.Captures.{capture_in}
use Rattle.capture_core.specs.Edges.{Captured}
use Rattle.capture_forms.specs.declared.form.CaptureForm.{CaptureForm}
use Rattle.program_captures.specs.Captures.{form_of, without_short}
use Rattle.program_input.specs.Parted.{IsCaptureInput}

-- the report of the expectations of a capture without short pulses and gaps; no line is at fault, and no test failed
pub record IsPassedBy (written : Form) (expectations : List ℕ) (glitch : ℕ) (capture : Captured) (text : List ℕ) : Type 0 where
  pub accepted : first_fault expectations ≡ None
  pub hold : length (filter not (capture_report written expectations (without_short glitch capture)).verdicts) ≡ 0
  pub report : text ≡ (capture_report written expectations (without_short glitch capture)).text

-- that of the expectations and the capture that an input spells, by the capture's form and the name of its wire
pub record IsCaptureTest (written : Form) (form : Option CaptureForm) (name : List ℕ) (glitch : ℕ) (input text : List ℕ) : Type 0 where
  pub expectations : List ℕ
  pub taken : List ℕ
  pub parts : IsCaptureInput input expectations taken
  pub capture : Captured
  pub read : capture_in (form_of form taken) name taken ≡ Ok capture
  pub passed : IsPassedBy written expectations glitch capture text

-- it is written, and nothing else
abbrev pub WritesPassedBy : Form → List ℕ → ℕ → Captured → Option (List ℕ) → Option (List ℕ) → Type 0
WritesPassedBy written expectations glitch capture old new = (text : List ℕ) × IsPassedBy written expectations glitch capture text × Appends old new text

abbrev pub WritesCaptureTest : Form → Option CaptureForm → List ℕ → ℕ → List ℕ → Option (List ℕ) → Option (List ℕ) → Type 0
WritesCaptureTest written form name glitch input old new = (text : List ℕ) × IsCaptureTest written form name glitch input text × Appends old new text
