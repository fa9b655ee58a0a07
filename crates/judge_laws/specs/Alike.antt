-- A capture of a run is judged as the run is (own).
use Rattle.std.specs.Prelude.{◌≡◌, ℕ, ◌+◌, not, Bool, true, false, codes, drop, length, map, List, [], ◌∷◌, Option, None, Result, Ok, Err}
use Rattle.std.specs.List.{list_all}
use Rattle.text_core.specs.Lines.{lines_of}
use Rattle.text_core.specs.Words.{words_of}
use Rattle.text_core.specs.declared.at.AtWord.{AtWord}
use Rattle.capture_core.specs.Edges.{Captured}
use Rattle.capture_forms.specs.declared.form.CaptureForm.{CaptureForm}
use Rattle.capture_monitor.specs.Watch.{as_file, file_readings, reading_as}
use Rattle.capture_laws.specs.Formats.{IsReadText}
use Rattle.room_run.specs.declared.run.Totals.{Totals}
use Rattle.room_run.specs.Emulate.{IsLineOf}
use Rattle.room_run.specs.Happening.{Happening}
use Rattle.room_run.specs.Run.{Config}
use Rattle.expect_text.specs.Fits.{fits}
use Rattle.expect_text.specs.Form.{ExpectLine, form_in}
use Rattle.expect_text.specs.Form.ExpectLine.{Other, Rounds, State, Refused, Unremarked}
use Rattle.expect_text.specs.Line.{onset_in, unlabelled_words}
use Rattle.expect_text.specs.Names.{named_in}
use Rattle.expect_text.specs.declared.form.ExpectCause.{ExpectCause}
use Rattle.expect_judge.specs.Told.{EventLine, RoundLine, Told}
use Rattle.expect_judge.specs.Judged.{other_judged, verdicts_of}
use Rattle.expect_judge.specs.Named.{is_labelled}
use Rattle.expect_judge.specs.declared.judge.Judged.{Judged}
use Rattle.expect_judge.specs.Seen.{ends_seen}
use Rattle.expect_judge.specs.declared.seen.TimeSpan.{TimeSpan}
use Rattle.expect_told.specs.Said.{reading_told}
use Rattle.record_core.specs.declared.cell.Form.TheVariants.{Text}
use Rattle.expect_told.specs.Turns.{IsRunOf, told_by}

abbrev pub is_no_by : List ℕ → Bool
is_no_by word = not (fits word (codes "by"))

-- no word of a pattern but its first can stand for `by`
abbrev pub asks_no_sender : List ℕ → Bool
asks_no_sender pattern = list_all is_no_by (drop 1 (words_of pattern))

-- In each span of time as many of both rounds meet a pattern, and they end at the same instants: of patterns without names that
-- can't ask who sent.
abbrev pub AreSeenAlike : List RoundLine → List RoundLine → Type 0
AreSeenAlike x y = (pattern : List ℕ) (span : TimeSpan) → named_in pattern ≡ None → asks_no_sender pattern ≡ true → ends_seen y span pattern ≡ ends_seen x span pattern

-- what is told of each reading of a capture, in order
abbrev pub readings_told : Captured → List RoundLine
readings_told c = map (λ x. reading_told Text (reading_as x)) (file_readings (as_file c))

-- So are the readings of the capture of a run, in any format, and the rounds of the run.
abbrev pub CapturesAreSeenAlike : Type 0
CapturesAreSeenAlike = (format : CaptureForm) (topology plain text : List ℕ) (totals : Totals) (happened : List Happening) (last : Config) → IsRunOf topology plain happened last → IsLineOf format topology plain text totals
    → (c : Captured) × IsReadText format text c × AreSeenAlike (told_by Text false happened).rounds (readings_told c)

-- ---- whole files

-- The label of an event or a pulse names the same instant by both, and the pattern of an expectation of rounds is such a one.
abbrev pub CanBeAlike : List EventLine → List EventLine → ℕ → Bool → Option ℕ → Result ExpectLine (AtWord ExpectCause) → Type 0
CanBeAlike x y number named onset (Err cause) = Unit {0}
CanBeAlike x y number named onset (Ok Other) = named ≡ true → other_judged y number onset ≡ other_judged x number onset
CanBeAlike x y number named onset (Ok (Rounds quantity window pattern)) = (named_in pattern ≡ None) × (asks_no_sender pattern ≡ true)
CanBeAlike x y number named onset (Ok (State time device words)) = Unit {0}
CanBeAlike x y number named onset (Ok (Refused name word)) = Unit {0}
CanBeAlike x y number named onset (Ok (Unremarked pattern)) = Unit {0}

-- that of each of these lines, of which the first has this number
abbrev pub AreAllAlike : List EventLine → List EventLine → ℕ → List (List ℕ) → Type 0
AreAllAlike x y number [] = Unit {0}
AreAllAlike x y number (line ∷ lines) =
    CanBeAlike x y number (is_labelled line) (onset_in (unlabelled_words (words_of line))) (form_in (unlabelled_words (words_of line))) × AreAllAlike x y (number + 1) lines

-- the same is found of an expectation of rounds: whether it holds, its instant, its window, and how many rounds meet it
abbrev pub IsSameOfRounds : Result ExpectLine (AtWord ExpectCause) → Judged → Judged → Type 0
IsSameOfRounds (Err cause) j k = Unit {0}
IsSameOfRounds (Ok Other) j k = Unit {0}
IsSameOfRounds (Ok (Rounds quantity window pattern)) j k = k ≡ j
IsSameOfRounds (Ok (State time device words)) j k = Unit {0}
IsSameOfRounds (Ok (Refused name word)) j k = Unit {0}
IsSameOfRounds (Ok (Unremarked pattern)) j k = Unit {0}

abbrev pub AreSameOfRounds : List (List ℕ) → List Judged → List Judged → Type 0
AreSameOfRounds [] js ks = Unit {0}
AreSameOfRounds (line ∷ lines) [] ks = ⊥
AreSameOfRounds (line ∷ lines) (j ∷ js) [] = ⊥
AreSameOfRounds (line ∷ lines) (j ∷ js) (k ∷ ks) = IsSameOfRounds (form_in (unlabelled_words (words_of line))) j k × AreSameOfRounds lines js ks

-- Then the expectations of rounds of a file, each with its window, hold by one exactly where they hold by the other, whatever states there are.
abbrev pub FilesAreJudgedAlike : Type 0
FilesAreJudgedAlike = (script : List ℕ) (x y : Told) (states others : List (List ℕ)) → AreSeenAlike x.rounds y.rounds → AreAllAlike x.events y.events 1 (lines_of script)
    → length states ≡ length (lines_of script) → length others ≡ length (lines_of script) → AreSameOfRounds (lines_of script) (verdicts_of script x states) (verdicts_of script y others)
