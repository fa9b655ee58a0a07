-- The expectations of rounds of a file are judged alike by what is told of two runs that see its patterns alike and name the same instants.
use Rattle.std.proofs.Common.{◌≡◌, ℕ, ◌+◌, ◌==◌, Bool, true, false, if◌then◌else◌, length, List, [], ◌∷◌, Option, Some, None, Result, Ok, Err, refl, ap, ◌∙◌, arith}
use Rattle.text_core.specs.Lines.{lines_of}
use Rattle.text_core.specs.Words.{words_of}
use Rattle.text_core.specs.declared.at.AtWord.{AtWord}
use Rattle.expect_text.specs.Faults.{line_of_label}
use Rattle.expect_text.specs.Form.{ExpectLine, ExpectWindow, form_in}
use Rattle.expect_text.specs.Form.ExpectLine.{Other, Rounds, State, Refused, Unremarked}
use Rattle.expect_text.specs.Form.ExpectWindow.{Within, From}
use Rattle.expect_text.specs.Line.{onset_in, unlabelled_words}
use Rattle.expect_text.specs.declared.form.ExpectCause.{ExpectCause}
use Rattle.expect_text.specs.declared.form.Quantity.{Quantity}
use Rattle.expect_judge.specs.Told.{Told}
use Rattle.expect_judge.specs.Judged.{form_judged, instant_at, line_judged, lines_judged, noted, rounds_by, rounds_judged, span_from, span_of}
use Rattle.expect_judge.specs.Named.{is_labelled}
use Rattle.expect_judge.specs.Seen.{first_of}
use Rattle.expect_judge.specs.declared.judge.Judged.{Judged}
use Rattle.expect_judge.specs.declared.seen.TimeSpan.{TimeSpan}
use Rattle.judge_laws.specs.Alike.{AreAllAlike, AreSameOfRounds, AreSeenAlike, CanBeAlike, FilesAreJudgedAlike, IsSameOfRounds}

-- ---- instants

abbrev SameInstants : (ℕ → Option ℕ) → (ℕ → Option ℕ) → Type 0
SameInstants at bt = (line : ℕ) → bt line ≡ at line

noted_same : (at bt : ℕ → Option ℕ) (number : ℕ) (o p : Option ℕ) → SameInstants at bt → p ≡ o → SameInstants (noted at number o) (noted bt number p)
noted_same at bt number o p h e line = ap (λ (x : Option ℕ). noted bt number x line) e ∙ by o
  where
    by : (o : Option ℕ) → noted bt number o line ≡ noted at number o line
    by None = h line
    by (Some instant) = ap (λ (x : Option ℕ). if number == line then Some instant else x) (h line)

span_same : (script : List ℕ) (at bt : ℕ → Option ℕ) → SameInstants at bt → (window : ExpectWindow) → span_of script bt window ≡ span_of script at window
span_same script at bt h (Within duration name) = ap (span_from duration) (by (line_of_label script name))
  where
    by : (o : Option ℕ) → instant_at bt o ≡ instant_at at o
    by None = refl
    by (Some line) = h line
span_same script at bt h (From from to) = refl

-- ---- a line

module _ (script : List ℕ) (x y : Told) (seen : AreSeenAlike x.rounds y.rounds) where
  rounds_same : (quantity : Quantity) (pattern : List ℕ) (span : Option TimeSpan) → CanBeAlike x.events y.events 0 false None (Ok (Rounds quantity (From 0 0) pattern))
      → rounds_judged y.rounds quantity pattern span ≡ rounds_judged x.rounds quantity pattern span
  rounds_same quantity pattern None can = refl
  rounds_same quantity pattern (Some span) can = ap (λ (ends : List ℕ). rounds_by quantity span (length ends) (first_of ends)) (seen pattern span can.0 can.1)

  form_same : (state other : List ℕ) (at bt : ℕ → Option ℕ) (number : ℕ) (named : Bool) (onset : Option ℕ) → SameInstants at bt → (form : Result ExpectLine (AtWord ExpectCause)) → CanBeAlike x.events y.events number named onset form
      → IsSameOfRounds form (form_judged script x state at number named onset form) (form_judged script y other bt number named onset form)
      × ((form_judged script y other bt number named onset form).at ≡ (form_judged script x state at number named onset form).at)
  form_same state other at bt number named onset h (Err cause) can = (tt, refl)
  form_same state other at bt number true onset h (Ok Other) can = (tt, ap (λ (j : Judged). j.at) (can refl))
  form_same state other at bt number false onset h (Ok Other) can = (tt, refl)
  form_same state other at bt number named onset h (Ok (Rounds quantity window pattern)) can =
      let same : rounds_judged y.rounds quantity pattern (span_of script bt window) ≡ rounds_judged x.rounds quantity pattern (span_of script at window) =
      ap (rounds_judged y.rounds quantity pattern) (span_same script at bt h window) ∙ rounds_same quantity pattern (span_of script at window) can in
      (same, ap (λ (j : Judged). j.at) same)
  form_same state other at bt number named onset h (Ok (State time device words)) can = (tt, refl)
  form_same state other at bt number named onset h (Ok (Refused name word)) can = (tt, refl)
  form_same state other at bt number named onset h (Ok (Unremarked pattern)) can = (tt, refl)

  lines_same : (lines states others : List (List ℕ)) (at bt : ℕ → Option ℕ) (number : ℕ) → SameInstants at bt → AreAllAlike x.events y.events number lines → length states ≡ length lines → length others ≡ length lines
      → AreSameOfRounds lines (lines_judged script x at number lines states) (lines_judged script y bt number lines others)
  lines_same [] states others at bt number h can l m = tt
  lines_same (line ∷ lines) [] others at bt number h can l m = absurd (omega (arith, l))
  lines_same (line ∷ lines) (state ∷ states) [] at bt number h can l m = absurd (omega (arith, m))
  lines_same (line ∷ lines) (state ∷ states) (other ∷ others) at bt number h can l m =
      let one = form_same state other at bt number (is_labelled line) (onset_in (unlabelled_words (words_of line))) h (form_in (unlabelled_words (words_of line))) can.0 in (
        one.0,
        lines_same lines states others (noted at number (line_judged script x state at number line).at) (noted bt number (line_judged script y other bt number line).at) (number + 1)
            (noted_same at bt number (line_judged script x state at number line).at (line_judged script y other bt number line).at h one.1) can.1 (omega (arith, l)) (omega (arith, m)),
      )

pub files_are_judged_alike : FilesAreJudgedAlike
files_are_judged_alike script x y states others seen can l m = lines_same script x y seen (lines_of script) states others (λ line. None) (λ line. None) 1 (λ line. refl) can l m
