-- What a check of a script answers: its report by what is told of the plain script's run.
use Rattle.std.specs.Prelude.{◌≡◌, ℕ, ◌<◌, not, Bool, true, false, List, length, filter, take, Option, Some, None, Result, Ok, Err}
use Rattle.std.specs.Io.KnownBytes.{Appends}
use Rattle.text_core.specs.Lines.{lines_of}
use Rattle.expect_text.specs.Line.{plain_script}
use Rattle.expect_text.specs.Faults.{first_fault}
use Rattle.record_core.specs.declared.cell.Form.{Form}
use Rattle.record_core.specs.declared.cell.Form.TheVariants.{Text}
use Rattle.room_run.specs.Emulate.{IsTraceOf, IsReported}
use Rattle.room_run.specs.declared.run.Totals.{Totals}
use Rattle.expect_judge.specs.Told.{Told}
use Rattle.expect_told.specs.Turns.{IsToldOf}
use Rattle.expect_run.specs.States.{AreStates}
use Rattle.expect_run.specs.States.StateView.{Below, Said}
use Rattle.expect_run.specs.Kept.{are_timed, kept}
use Rattle.expect_run.specs.Report.{Report, report}
use Rattle.expect_run.specs.declared.checking.Tally.{Tally}
use Rattle.expect_run.specs.declared.checking.CheckError.{CheckError}
use Rattle.expect_run.specs.declared.checking.CheckError.TheVariants.{Emulate, Expect, Write, Memory}

-- how many tests have these verdicts, and how many of them failed
abbrev pub tally_of : List Bool → Tally
tally_of verdicts = record { count = length verdicts; failed = length (filter not verdicts) }

-- the report of a script in a form, by what is told of the run of its plain script on the topology, which is accepted and has no line
-- at fault
pub record IsReportOf (form : Form) (topology script : List ℕ) (r : Report) : Type 0 where
  pub told : Told
  pub run : IsToldOf form topology script told
  pub accepted : first_fault topology script ≡ None
  pub states : List (List ℕ)
  pub states_are : AreStates Said topology (plain_script script) (lines_of script) states
  pub texts : List (List ℕ)
  pub texts_are : AreStates (Below form) topology (plain_script script) (lines_of script) texts
  pub report_is : r ≡ report form script told states texts

-- what a script needs of what is told of the plain script's run, in which labelled events were applied about when the script has them
pub record IsKeptOf (form : Form) (topology script : List ℕ) (few : Told) : Type 0 where
  pub told : Told
  pub run : IsToldOf form topology script told
  pub few_is : few ≡ kept script told
  pub timed : are_timed script told.events ≡ true

-- the same of all that is told, or of what is needed
abbrev pub IsHeardSo : Form → Bool → List ℕ → List ℕ → Told → Type 0
IsHeardSo form true topology script told = IsToldOf form topology script told
IsHeardSo form false topology script told = IsKeptOf form topology script told

-- the report is written
abbrev pub IsChecked : Form → List ℕ → List ℕ → Option (List ℕ) → Option (List ℕ) → Tally → Type 0
IsChecked form topology script old new tally =
    (r : Report) × IsReportOf form topology script r × (tally ≡ tally_of r.verdicts) × Appends old new r.text

-- When each refusal comes: those of the run of the plain script, and then the first line whose label or expectation is at fault.
-- Of memory nothing is said.
abbrev pub IsCheckReported : Form → List ℕ → List ℕ → CheckError → Type 0
IsCheckReported form topology script (Emulate error) = IsReported topology (plain_script script) error
IsCheckReported form topology script (Expect fault) = (trace : List ℕ) × (totals : Totals) × IsTraceOf topology (plain_script script) trace totals × (first_fault topology script ≡ Some fault)
IsCheckReported form topology script (Write count) = (r : Report) × IsReportOf form topology script r
IsCheckReported form topology script Memory = Unit {0}

-- what a refusal has written: after a failed write the front of the report, as long as it reports, and else nothing
abbrev pub IsCheckCut : Form → List ℕ → List ℕ → Option (List ℕ) → Option (List ℕ) → CheckError → Type 0
IsCheckCut form topology script old new (Write count) =
    (r : Report) × IsReportOf form topology script r × (count < length r.text) × Appends old new (take count r.text)
IsCheckCut form topology script old new (Emulate error) = new ≡ old
IsCheckCut form topology script old new (Expect fault) = new ≡ old
IsCheckCut form topology script old new Memory = new ≡ old

abbrev pub is_write_fault : CheckError → Bool
is_write_fault (Write count) = true
is_write_fault (Emulate error) = false
is_write_fault (Expect fault) = false
is_write_fault Memory = false

abbrev pub is_write : Result Tally CheckError → Bool
is_write (Ok tally) = false
is_write (Err error) = is_write_fault error

-- ---- verdicts alone

-- these are the verdicts of the report's tests, which its form leaves as they are
abbrev pub AreVerdictsOf : List ℕ → List ℕ → List Bool → Type 0
AreVerdictsOf topology script verdicts = (r : Report) × IsReportOf Text topology script r × (verdicts ≡ r.verdicts)

-- when each refusal comes where nothing is written: as with a report
pub record IsVerdictReported (topology script : List ℕ) (error : CheckError) : Type 0 where
  pub reported : IsCheckReported Text topology script error
  pub unwritten : is_write_fault error ≡ false

-- a tally counts the verdicts, and those of them that are false
abbrev pub TalliesCountVerdicts : Type 0
TalliesCountVerdicts = (form : Form) (topology script : List ℕ) (old new : Option (List ℕ)) (tally : Tally) (verdicts : List Bool)
    → IsChecked form topology script old new tally → AreVerdictsOf topology script verdicts → tally ≡ tally_of verdicts
