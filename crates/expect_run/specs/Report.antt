-- The report of a script's expectations (Test Anything Protocol, version 13): a line for each expectation, in order, and one for
-- each refused event that none expects; then their count. Lines that begin with `#` stand below those that failed. In objects of JSON
-- it has an object for each of these lines.
use Rattle.std.specs.Prelude.{ℕ, ◌+◌, ◌==◌, Bool, true, false, if◌then◌else◌, codes, length, take, List, [], ◌∷◌, ◌++◌, Option, Some, None, Result, Ok, Err}
use Rattle.std.specs.List.{flat_map}
use Rattle.text_core.specs.Held.{held_bytes}
use Rattle.text_core.specs.Lines.{lines_of}
use Rattle.text_core.specs.Words.{words_of}
use Rattle.record_core.specs.Cells.{PlainCell, both, hidden, line_only}
use Rattle.record_core.specs.Records.{record_text}
use Rattle.record_core.specs.Values.{escaped, nothing, number as numeral, switch}
use Rattle.record_core.specs.declared.cell.Form.{Form}
use Rattle.expect_text.specs.Line.{unlabelled_words}
use Rattle.expect_text.specs.Form.{ExpectLine, form_in}
use Rattle.expect_text.specs.Form.ExpectLine.{Other, Rounds, State, Refused, Unremarked}
use Rattle.text_core.specs.declared.at.AtWord.{AtWord}
use Rattle.expect_text.specs.declared.form.ExpectCause.{ExpectCause}
use Rattle.expect_judge.specs.Told.{EventLine, RoundLine, Told}
use Rattle.expect_judge.specs.Seen.{rounds_seen}
use Rattle.expect_judge.specs.Judged.{JudgedLine, verdicts_of, is_refusal_expected}
use Rattle.expect_judge.specs.declared.seen.TimeSpan.{TimeSpan}
use Rattle.expect_judge.specs.declared.judge.Judged.{Judged}
use Rattle.expect_run.specs.declared.report.ReportDraft.{ReportDraft}

-- the text so far, and of each of its tests, in order, whether it holds
pub record Report : Type 0 where
  pub text : List ℕ
  pub verdicts : List Bool

abbrev pub report_as : ReportDraft → Report
report_as d = record { text = held_bytes d.text; verdicts = d.verdicts.items }

-- ---- tests

abbrev pub verdict_word : Bool → List ℕ
verdict_word true = codes "ok "
verdict_word false = codes "not ok "

-- `not ok 3 - line 5: ..`: a test by its number, its line in the script, and whether it holds
abbrev pub test_cells : ℕ → Bool → ℕ → List PlainCell → List PlainCell
test_cells n holds line cells =
    line_only (verdict_word holds) nothing ∷ both [] (codes "test") (numeral n) ∷ both (codes " - line ") (codes "script_line") (numeral line)
    ∷ hidden (codes "holds") (switch holds) ∷ cells

-- of an expectation, with the text of its line, in which a `#` or a backslash has a backslash before it
abbrev pub expectation_cells : List ℕ → List PlainCell
expectation_cells text = both (codes ": ") (codes "expectation") (escaped text) ∷ hidden (codes "refused") nothing ∷ []

-- of a refused event that no line expects
abbrev pub refusal_cells : List ℕ → List PlainCell
refusal_cells word = hidden (codes "expectation") nothing ∷ both (codes ": refused ") (codes "refused") (escaped word) ∷ []

abbrev pub with_cells : Form → Report → Bool → ℕ → List PlainCell → Report
with_cells form r holds line cells = record {
  text = r.text ++ record_text form (codes "test") (test_cells (length r.verdicts + 1) holds line cells);
  verdicts = r.verdicts ++ holds ∷ [];
}

abbrev pub with_test : Form → Report → Bool → ℕ → List ℕ → Report
with_test form r holds line text = with_cells form r holds line (expectation_cells text)

abbrev pub with_refusal : Form → Report → ℕ → List ℕ → Report
with_refusal form r line word = with_cells form r false line (refusal_cells word)

-- ---- what stands below a test that failed

-- the first eight rounds that are seen
abbrev pub shown_rounds : List RoundLine → TimeSpan → List ℕ → List RoundLine
shown_rounds rounds span pattern = take 8 (rounds_seen rounds span pattern)

abbrev pub shown_round : RoundLine → List ℕ
shown_round r = r.shown

abbrev pub shown_text : List RoundLine → TimeSpan → List ℕ → List ℕ
shown_text rounds span pattern = flat_map shown_round (shown_rounds rounds span pattern)

-- `# seen 1 from 1000000 to 1200000`
abbrev pub window_cells : ℕ → TimeSpan → List PlainCell
window_cells count span =
    both (codes "# seen ") (codes "seen") (numeral count) ∷ both (codes " from ") (codes "from") (numeral span.from) ∷ both (codes " to ") (codes "to") (numeral span.to) ∷ []

-- no instant, no window
abbrev pub no_window_cells : List PlainCell
no_window_cells = line_only (codes "# no instant") nothing ∷ hidden (codes "seen") nothing ∷ hidden (codes "from") nothing ∷ hidden (codes "to") nothing ∷ []

abbrev pub seen_line : Form → ℕ → TimeSpan → List ℕ
seen_line form count span = record_text form (codes "window") (window_cells count span)

-- the window and the rounds in it that meet the pattern, or, where none does, the rounds in it
abbrev pub span_remarks : Form → List RoundLine → List ℕ → ℕ → Option TimeSpan → List ℕ
span_remarks form rounds pattern count None = record_text form (codes "window") no_window_cells
span_remarks form rounds pattern count (Some span) = seen_line form count span ++ shown_text rounds span (if count == 0 then codes "*" else pattern)

-- the state, where a state was expected, or what is told of the audit, where no remark was
abbrev pub form_remarks : Form → List RoundLine → List ℕ → Judged → Result ExpectLine (AtWord ExpectCause) → List ℕ
form_remarks form rounds below j (Err cause) = []
form_remarks form rounds below j (Ok Other) = []
form_remarks form rounds below j (Ok (Rounds quantity window pattern)) = span_remarks form rounds pattern j.count j.span
form_remarks form rounds below j (Ok (State time device words)) = below
form_remarks form rounds below j (Ok (Refused name word)) = []
form_remarks form rounds below j (Ok (Unremarked pattern)) = below

abbrev pub remarks : Form → List RoundLine → List ℕ → Judged → List ℕ → List ℕ
remarks form rounds below j line = form_remarks form rounds below j (form_in (unlabelled_words (words_of line)))

abbrev pub with_remarks : Report → Bool → List ℕ → Report
with_remarks r true text = r
with_remarks r false text = record r { text = r.text ++ text }

-- ---- lines of the script

abbrev pub with_found : Form → List RoundLine → List ℕ → Report → ℕ → List ℕ → Judged → Option Bool → Report
with_found form rounds below r number line j None = r
with_found form rounds below r number line j (Some holds) = with_remarks (with_test form r holds number line) holds (remarks form rounds below j line)

abbrev pub with_line : Form → List RoundLine → List ℕ → Report → ℕ → List ℕ → Judged → Report
with_line form rounds below r number line j = with_found form rounds below r number line j j.holds

-- these lines, of which the first has this number, what stands below the test of a state or of the audit, and what is found of each
abbrev pub with_lines : Form → List RoundLine → Report → ℕ → List (List ℕ) → List (List ℕ) → List Judged → Report
with_lines form rounds r number [] texts js = r
with_lines form rounds r number (line ∷ lines) [] js = r
with_lines form rounds r number (line ∷ lines) (below ∷ texts) [] = r
with_lines form rounds r number (line ∷ lines) (below ∷ texts) (j ∷ js) = with_lines form rounds (with_line form rounds below r number line j) (number + 1) lines texts js

-- the same by what is found of the lines that expect something
abbrev pub with_findings : Form → List RoundLine → Report → ℕ → List (List ℕ) → List JudgedLine → Report
with_findings form rounds r number [] fs = r
with_findings form rounds r number (line ∷ lines) [] = r
with_findings form rounds r number (line ∷ lines) (f ∷ fs) =
    if f.line == number then with_findings form rounds (with_line form rounds f.below r number line f.judged) (number + 1) lines fs
    else with_findings form rounds r (number + 1) lines (f ∷ fs)

-- ---- refused events

abbrev pub with_word : Form → List ℕ → Report → ℕ → Option (List ℕ) → Report
with_word form script r line None = r
with_word form script r line (Some word) = if is_refusal_expected script line then r else with_refusal form r line word

abbrev pub with_event : Form → List ℕ → Report → EventLine → Report
with_event form script r e = with_word form script r e.line e.refused

-- of these events
abbrev pub with_refusals : Form → List ℕ → Report → List EventLine → Report
with_refusals form script r [] = r
with_refusals form script r (e ∷ events) = with_refusals form script (with_event form script r e) events

-- ---- all

-- `TAP version 13`
abbrev pub version_cells : List PlainCell
version_cells = both (codes "TAP version ") (codes "version") (numeral 13) ∷ []

abbrev pub report_start : Form → Report
report_start form = record { text = record_text form (codes "version") version_cells; verdicts = [] }

-- `1..N`
abbrev pub plan_cells : ℕ → List PlainCell
plan_cells count = both (codes "1..") (codes "tests") (numeral count) ∷ []

abbrev pub report_with_plan : Form → Report → Report
report_with_plan form r = record r { text = r.text ++ record_text form (codes "plan") (plan_cells (length r.verdicts)) }

-- the tests of a script, by what is told of its run, what stands below the tests of states and of the audit, and what is found of each line
abbrev pub found_tests : Form → List ℕ → Told → List (List ℕ) → List Judged → Report
found_tests form script told texts found = with_refusals form script (with_lines form told.rounds (report_start form) 1 (lines_of script) texts found) told.events

-- the same by what is found of the lines that expect something
abbrev pub tests_by : Form → List ℕ → Told → List JudgedLine → Report
tests_by form script told fs = with_refusals form script (with_findings form told.rounds (report_start form) 1 (lines_of script) fs) told.events

abbrev pub report_by : Form → List ℕ → Told → List JudgedLine → Report
report_by form script told fs = report_with_plan form (tests_by form script told fs)

-- the tests of a script, by what is told of its run and, of each line, the state line that it speaks of, and what stands below its test
abbrev pub tests : Form → List ℕ → Told → List (List ℕ) → List (List ℕ) → Report
tests form script told states texts = found_tests form script told texts (verdicts_of script told states)

-- and its report
abbrev pub report : Form → List ℕ → Told → List (List ℕ) → List (List ℕ) → Report
report form script told states texts = report_with_plan form (tests form script told states texts)
