-- The report by what is found of the lines that expect something is that by what is found of each line.
use Rattle.std.proofs.Common.{◌≡◌, ℕ, ◌+◌, ◌<◌, ◌==◌, Bool, true, false, if◌then◌else◌, List, [], ◌∷◌, map, Option, Some, None, refl, sym, ap, ◌∙◌, arith}
use Rattle.std.proofs.lemmas.Bool.Decides.{nat_tests}
use Rattle.record_core.specs.declared.cell.Form.{Form}
use Rattle.text_core.specs.Lines.{lines_of}
use Rattle.expect_judge.specs.Told.{RoundLine, Told}
use Rattle.expect_judge.specs.Judged.{finding_as, findings_from, findings_of, or_more, states_for, verdicts_of}
use Rattle.expect_judge.specs.declared.judge.Judged.{Judged}
use Rattle.expect_judge.specs.declared.judge.JudgedLine.{JudgedLine as FindingRead}
use Rattle.expect_run.specs.Report.{Report, report, report_by, report_start, report_with_plan, tests, tests_by, with_findings, with_found, with_line, with_lines, with_refusals}

itself : (n : ℕ) → (n == n) ≡ true
itself n = grind (arith, nat_tests)

later : (m n : ℕ) → n < m → (m == n) ≡ false
later m n h = grind (arith, nat_tests)

none_left : (form : Form) (rounds : List RoundLine) (r : Report) (number : ℕ) (lines : List (List ℕ)) → with_findings form rounds r number lines [] ≡ r
none_left form rounds r number [] = refl
none_left form rounds r number (line ∷ lines) = refl

-- a line of which nothing is found
skipped : (form : Form) (rounds : List RoundLine) (r : Report) (number next : ℕ) (line : List ℕ) (lines states : List (List ℕ)) (js : List Judged) → number < next
    → with_findings form rounds r number (line ∷ lines) (findings_from next states js) ≡ with_findings form rounds r (number + 1) lines (findings_from next states js)
skipped form rounds r number next line lines [] js h = sym (none_left form rounds r (number + 1) lines)
skipped form rounds r number next line lines (state ∷ states) [] h = sym (none_left form rounds r (number + 1) lines)
skipped form rounds r number next line lines (state ∷ states) (j ∷ js) h = by j.holds (skipped form rounds r number (next + 1) line lines states js (omega (arith, h)))
  where
    by : (o : Option Bool)
        → with_findings form rounds r number (line ∷ lines) (findings_from (next + 1) states js) ≡ with_findings form rounds r (number + 1) lines (findings_from (next + 1) states js)
        → with_findings form rounds r number (line ∷ lines) (or_more next state j o (findings_from (next + 1) states js))
        ≡ with_findings form rounds r (number + 1) lines (or_more next state j o (findings_from (next + 1) states js))
    by None more = more
    by (Some holds) more =
        ap (λ b. if b then with_findings form rounds (with_line form rounds state r number line j) (number + 1) lines (findings_from (next + 1) states js)
        else with_findings form rounds r (number + 1) lines (or_more next state j (Some holds) (findings_from (next + 1) states js))) (later next number h)

all_lines : (form : Form) (rounds : List RoundLine) (r : Report) (number : ℕ) (lines states : List (List ℕ)) (js : List Judged)
    → with_findings form rounds r number lines (findings_from number states js) ≡ with_lines form rounds r number lines states js
all_lines form rounds r number [] states js = refl
all_lines form rounds r number (line ∷ lines) [] js = refl
all_lines form rounds r number (line ∷ lines) (state ∷ states) [] = refl
all_lines form rounds r number (line ∷ lines) (state ∷ states) (j ∷ js) = by j.holds refl (λ q. all_lines form rounds q (number + 1) lines states js)
  where
    by : (o : Option Bool) → j.holds ≡ o
        → ((q : Report) → with_findings form rounds q (number + 1) lines (findings_from (number + 1) states js) ≡ with_lines form rounds q (number + 1) lines states js)
        → with_findings form rounds r number (line ∷ lines) (or_more number state j o (findings_from (number + 1) states js))
        ≡ with_lines form rounds (with_line form rounds state r number line j) (number + 1) lines states js
    by None e more =
        skipped form rounds r number (number + 1) line lines states js (omega arith) ∙ more r
        ∙ sym (ap (λ (o : Option Bool). with_lines form rounds (with_found form rounds state r number line j o) (number + 1) lines states js) e)
    by (Some holds) e more =
        ap (λ b. if b then with_findings form rounds (with_line form rounds state r number line j) (number + 1) lines (findings_from (number + 1) states js)
        else with_findings form rounds r (number + 1) lines (or_more number state j (Some holds) (findings_from (number + 1) states js))) (itself number)
        ∙ more (with_line form rounds state r number line j)

tests_again : (form : Form) (script : List ℕ) (told : Told) (texts : List (List ℕ)) (js : List Judged) → tests_by form script told (findings_from 1 texts js)
    ≡ with_refusals form script (with_lines form told.rounds (report_start form) 1 (lines_of script) texts js) told.events
tests_again form script told texts js = ap (λ (r : Report). with_refusals form script r told.events) (all_lines form told.rounds (report_start form) 1 (lines_of script) texts js)

pub report_again : (form : Form) (script : List ℕ) (told : Told) (texts : List (List ℕ)) (js : List Judged) → report_by form script told (findings_from 1 texts js)
    ≡ report_with_plan form (with_refusals form script (with_lines form told.rounds (report_start form) 1 (lines_of script) texts js) told.events)
report_again form script told texts js = ap (report_with_plan form) (tests_again form script told texts js)

pub tests_are : (form : Form) (script named : List ℕ) (told : Told) (states texts : List (List ℕ)) (found lent : List FindingRead) (r : Report) → named ≡ script
    → map finding_as found ≡ findings_of named told (states_for (lines_of named) states) (states_for (lines_of named) texts) → lent ≡ found → r ≡ tests_by form named told (map finding_as lent)
    → r ≡ tests form script told (states_for (lines_of script) states) (states_for (lines_of script) texts)
tests_are form script named told states texts found lent r same is again made =
    made ∙ ap (λ (fs : List FindingRead). tests_by form named told (map finding_as fs)) again ∙ ap (tests_by form named told) is
    ∙ tests_again form named told (states_for (lines_of named) texts) (verdicts_of named told (states_for (lines_of named) states))
    ∙ ap (λ t. tests form t told (states_for (lines_of t) states) (states_for (lines_of t) texts)) same

pub report_is : (form : Form) (script named : List ℕ) (told : Told) (states texts : List (List ℕ)) (found lent : List FindingRead) (r : Report) → named ≡ script
    → map finding_as found ≡ findings_of named told (states_for (lines_of named) states) (states_for (lines_of named) texts) → lent ≡ found → r ≡ report_by form named told (map finding_as lent)
    → r ≡ report form script told (states_for (lines_of script) states) (states_for (lines_of script) texts)
report_is form script named told states texts found lent r same is again made =
    made ∙ ap (λ (fs : List FindingRead). report_by form named told (map finding_as fs)) again ∙ ap (report_by form named told) is
    ∙ report_again form named told (states_for (lines_of named) texts) (verdicts_of named told (states_for (lines_of named) states))
    ∙ ap (λ t. report form t told (states_for (lines_of t) states) (states_for (lines_of t) texts)) same
