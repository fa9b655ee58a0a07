-- What is answered of a script with expectations (this profile's own).
use Rattle.std.specs.Prelude.{◌≡◌, ◌≤◌, ◌<◌, ℕ, List, [], Some}
use Rattle.record_core.specs.declared.cell.Form.TheVariants.{Text}
use Rattle.expect_run.specs.Check.{IsCheckReported, IsChecked}
use Rattle.expect_run.specs.declared.checking.CheckError.{CheckError}
use Rattle.expect_run.specs.declared.checking.CheckError.TheVariants.{Emulate, Expect, Write, Memory as NoMemory}
use Rattle.expect_run.specs.declared.checking.Tally.{Tally}
use Rattle.expect_text.specs.declared.form.ExpectCause.{ExpectCause}
use Rattle.expect_text.specs.declared.form.ExpectCause.TheVariants as expects
use Rattle.library_answers.specs.Room.{IsPut, refusal}
use Rattle.library_answers.specs.declared.answer.Answer.{Answer}
use Rattle.library_answers.specs.declared.code.Code.{Code}
use Rattle.library_answers.specs.declared.code.Code.TheVariants.{Memory, ScriptName, ExpectWord, ExpectNumber, ExpectLabel, ExpectOrder}
use Rattle.library_run.specs.Run.{run_answer}
use Rattle.library_run.specs.declared.checking.TestCounts.{TestCounts}

abbrev pub expect_code : ExpectCause → Code
expect_code expects.Word = ExpectWord
expect_code expects.Pattern = ExpectWord
expect_code expects.Number = ExpectNumber
expect_code expects.Name = ScriptName
expect_code expects.Label = ExpectLabel
expect_code expects.Order = ExpectOrder
expect_code expects.Unmet = ExpectWord

-- a write into memory fails where memory runs out
abbrev pub check_answer : CheckError → Answer
check_answer (Emulate error) = run_answer error
check_answer (Expect fault) = refusal (expect_code fault.cause) fault.line
check_answer (Write count) = refusal Memory 0
check_answer NoMemory = refusal Memory 0

abbrev pub counts_of : Tally → TestCounts
counts_of tally = record { count = tally.count; failed = tally.failed }

-- the report of the script is put into the room, and its tests are counted
abbrev pub IsReportPut : List ℕ → List ℕ → List ℕ → List ℕ → TestCounts → Answer → Type 0
IsReportPut topology script old new counts answer =
    (text : List ℕ) × (tally : Tally) × IsChecked Text topology script (Some []) (Some text) tally × (counts ≡ counts_of tally) × IsPut text old new answer

-- there is no report, for the first cause, and nothing is put or counted
abbrev pub IsCheckRefused : List ℕ → List ℕ → List ℕ → List ℕ → TestCounts → TestCounts → Answer → Type 0
IsCheckRefused topology script old new before after answer =
    (cause : CheckError) × IsCheckReported Text topology script cause × (answer ≡ check_answer cause) × (new ≡ old) × (after ≡ before)

-- the one or the other, by its code
abbrev pub AnswersCheck : List ℕ → List ℕ → List ℕ → List ℕ → TestCounts → TestCounts → Answer → Type 0
AnswersCheck topology script old new before after answer =
    (answer.code ≤ 1 → IsReportPut topology script old new after answer) × (1 < answer.code → IsCheckRefused topology script old new before after answer)
