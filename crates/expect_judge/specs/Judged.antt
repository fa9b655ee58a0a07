-- What is found of each line of a script, by what is told of its run and, of each line, the state line that it speaks of (own). Lines
-- count from 1.
use Rattle.std.specs.Prelude.{ℕ, ◌+◌, ◌-◌, ◌^◌, ◌==◌, min, ◌||◌, not, codes, Bool, true, false, if◌then◌else◌, length, List, [], ◌∷◌, Option, Some, None, Result, Ok, Err}
use Rattle.std.specs.Str.{bytes_eq}
use Rattle.std.specs.List.{list_all, list_any}
use Rattle.text_core.specs.Lines.{lines_of}
use Rattle.text_core.specs.Words.{words_of}
use Rattle.expect_text.specs.Line.{onset_in, unlabelled_words}
use Rattle.expect_text.specs.Form.{ExpectLine, ExpectWindow, form_in, is_allowed}
use Rattle.expect_text.specs.Form.ExpectLine.{Other, Rounds, State, Refused, Unremarked}
use Rattle.expect_text.specs.Form.ExpectWindow.{Within, From}
use Rattle.expect_text.specs.Faults.{line_of_label, event_meant}
use Rattle.text_core.specs.declared.at.AtWord.{AtWord}
use Rattle.expect_text.specs.declared.form.ExpectCause.{ExpectCause}
use Rattle.expect_text.specs.declared.form.Quantity.{Quantity}
use Rattle.expect_judge.specs.Told.{EventLine, RoundLine, Told, event_at}
use Rattle.expect_judge.specs.Named.{is_labelled}
use Rattle.expect_judge.specs.Seen.{ends_seen, first_of}
use Rattle.expect_judge.specs.declared.seen.TimeSpan.{TimeSpan}
use Rattle.expect_judge.specs.declared.judge.Judged.{Judged}
use Rattle.expect_judge.specs.declared.judge.JudgedLine.{JudgedLine as FindingRead}

-- ---- windows

-- the instant of a line, by those of the lines above
abbrev pub instant_at : (ℕ → Option ℕ) → Option ℕ → Option ℕ
instant_at at None = None
instant_at at (Some line) = at line

-- a window that begins at an instant; its end is at most 2 ^ 64 - 1
abbrev pub span_from : ℕ → Option ℕ → Option TimeSpan
span_from duration None = None
span_from duration (Some at) = Some (record { from = at; to = min (at + duration) (2 ^ 64 - 1) })

-- a label without an instant leaves no span
abbrev pub span_of : List ℕ → (ℕ → Option ℕ) → ExpectWindow → Option TimeSpan
span_of script at (Within duration name) = span_from duration (instant_at at (line_of_label script name))
span_of script at (From from to) = Some (record { from = from; to = to })

-- ---- expectations of rounds

-- its instant is the end of the first round that meets it, where it holds
abbrev pub rounds_by : Quantity → TimeSpan → ℕ → Option ℕ → Judged
rounds_by quantity span count first = record {
  holds = Some (is_allowed quantity count);
  at = if is_allowed quantity count then first else None;
  span = Some span;
  count = count;
}

-- what fails
abbrev pub failure : Judged
failure = record { holds = Some false; at = None; span = None; count = 0 }

abbrev pub rounds_judged : List RoundLine → Quantity → List ℕ → Option TimeSpan → Judged
rounds_judged rounds quantity pattern None = failure
rounds_judged rounds quantity pattern (Some span) =
    rounds_by quantity span (length (ends_seen rounds span pattern)) (first_of (ends_seen rounds span pattern))

-- ---- states

abbrev pub has_word : List ℕ → List (List ℕ) → Bool
has_word word words = list_any (λ other. bytes_eq other word) words

-- each of these words is among the others
abbrev pub has_words : List (List ℕ) → List (List ℕ) → Bool
has_words words others = list_all (λ word. has_word word others) words

-- none of these words is among the others
abbrev pub lacks_words : List (List ℕ) → List (List ℕ) → Bool
lacks_words words others = list_all (λ word. not (has_word word others)) words

-- after `not` none of them is
abbrev pub is_state_met : List (List ℕ) → List (List ℕ) → Bool
is_state_met [] others = true
is_state_met (word ∷ words) others = if bytes_eq word (codes "not") then lacks_words words others else has_words (word ∷ words) others

-- what the line of a state reports: the words after the device's name
abbrev pub state_words : List (List ℕ) → List (List ℕ)
state_words [] = []
state_words (verb ∷ []) = []
state_words (verb ∷ device ∷ words) = words

abbrev pub state_judged : List ℕ → List (List ℕ) → Judged
state_judged state words = record { holds = Some (is_state_met words (state_words (words_of state))); at = None; span = None; count = 0 }

-- ---- remarks

-- nothing is told of the audit of the run's line
abbrev pub unremarked_judged : List ℕ → Judged
unremarked_judged told = record { holds = Some (length told == 0); at = None; span = None; count = 0 }

-- ---- refused events

abbrev pub refusal_by : Option EventLine → Option (List ℕ)
refusal_by None = None
refusal_by (Some e) = e.refused

-- the word with which the event of a line was refused
abbrev pub refusal_at : List EventLine → Option ℕ → Option (List ℕ)
refusal_at events None = None
refusal_at events (Some line) = refusal_by (event_at events line)

abbrev pub is_word : List ℕ → Option (List ℕ) → Bool
is_word word None = false
is_word word (Some other) = bytes_eq other word

-- of a line of this number that names the event of a label, or else that of the line above
abbrev pub refused_judged : List ℕ → List EventLine → ℕ → Option (List ℕ) → List ℕ → Judged
refused_judged script events number name word = record { holds = Some (is_word word (refusal_at events (event_meant script number name))); at = None; span = None; count = 0 }

-- ---- lines

abbrev pub event_instant : Option EventLine → Option ℕ
event_instant None = None
event_instant (Some e) = Some e.at

-- nothing is to hold of it; the instant of a pulse is its onset
abbrev pub of_instant : Option ℕ → Judged
of_instant at = record { holds = None; at = at; span = None; count = 0 }

-- and that of an event the one at which it was applied
abbrev pub other_judged : List EventLine → ℕ → Option ℕ → Judged
other_judged events number None = of_instant (event_instant (event_at events number))
other_judged events number (Some onset) = of_instant (Some onset)

-- nothing is found of a line that expects nothing, where no label names it
abbrev pub nothing : Judged
nothing = record { holds = None; at = None; span = None; count = 0 }

-- of a line that may have a label and be a pulse
abbrev pub form_judged : List ℕ → Told → List ℕ → (ℕ → Option ℕ) → ℕ → Bool → Option ℕ → Result ExpectLine (AtWord ExpectCause) → Judged
form_judged script told state at number named onset (Err cause) = failure
form_judged script told state at number named onset (Ok Other) = if named then other_judged told.events number onset else nothing
form_judged script told state at number named onset (Ok (Rounds quantity window pattern)) = rounds_judged told.rounds quantity pattern (span_of script at window)
form_judged script told state at number named onset (Ok (State time device words)) = state_judged state words
form_judged script told state at number named onset (Ok (Refused name word)) = refused_judged script told.events number name word
form_judged script told state at number named onset (Ok (Unremarked pattern)) = unremarked_judged state

-- a line of this number, by the instants of the lines above and the state line that it speaks of
abbrev pub line_judged : List ℕ → Told → List ℕ → (ℕ → Option ℕ) → ℕ → List ℕ → Judged
line_judged script told state at number line = form_judged script told state at number (is_labelled line) (onset_in (unlabelled_words (words_of line))) (form_in (unlabelled_words (words_of line)))

-- with the instant of one line more, where it has one
abbrev pub noted : (ℕ → Option ℕ) → ℕ → Option ℕ → ℕ → Option ℕ
noted at number None line = at line
noted at number (Some instant) line = if number == line then Some instant else at line

-- these lines, of which the first has this number, and the state line of each
abbrev pub lines_judged : List ℕ → Told → (ℕ → Option ℕ) → ℕ → List (List ℕ) → List (List ℕ) → List Judged
lines_judged script told at number [] states = []
lines_judged script told at number (line ∷ lines) [] = []
lines_judged script told at number (line ∷ lines) (state ∷ states) =
    line_judged script told state at number line
    ∷ lines_judged script told (noted at number (line_judged script told state at number line).at) (number + 1) lines states

-- all lines
abbrev pub verdicts_of : List ℕ → Told → List (List ℕ) → List Judged
verdicts_of script told states = lines_judged script told (λ line. None) 1 (lines_of script) states

-- ---- expectations alone

-- what is found of a line that expects something: its number, and what stands below its test of a state or of the audit
pub record JudgedLine : Type 0 where
  pub line : ℕ
  pub judged : Judged
  pub below : List ℕ

abbrev pub finding_as : FindingRead → JudgedLine
finding_as f = record { line = f.line; judged = f.judged; below = f.below.now }

abbrev pub or_more : ℕ → List ℕ → Judged → Option Bool → List JudgedLine → List JudgedLine
or_more number text j None more = more
or_more number text j (Some holds) more = record { line = number; judged = j; below = text } ∷ more

-- those of lines that expect something, of lines below whose tests these texts stand, of which the first has this number
abbrev pub findings_from : ℕ → List (List ℕ) → List Judged → List JudgedLine
findings_from number [] js = []
findings_from number (text ∷ texts) [] = []
findings_from number (text ∷ texts) (j ∷ js) = or_more number text j j.holds (findings_from (number + 1) texts js)

abbrev pub findings_of : List ℕ → Told → List (List ℕ) → List (List ℕ) → List JudgedLine
findings_of script told states texts = findings_from 1 texts (verdicts_of script told states)

-- ---- state lines

abbrev pub is_state_form : Result ExpectLine (AtWord ExpectCause) → Bool
is_state_form (Err cause) = false
is_state_form (Ok Other) = false
is_state_form (Ok (Rounds quantity window pattern)) = false
is_state_form (Ok (State time device words)) = true
is_state_form (Ok (Refused name word)) = false
is_state_form (Ok (Unremarked pattern)) = true

-- a line speaks of a state, or of the audit, of which what is told stands for a state
abbrev pub is_of_state : List ℕ → Bool
is_of_state line = is_state_form (form_in (unlabelled_words (words_of line)))

abbrev pub first_state : Bool → List (List ℕ) → List ℕ
first_state false states = []
first_state true [] = []
first_state true (state ∷ states) = state

abbrev pub later_states : Bool → List (List ℕ) → List (List ℕ)
later_states false states = states
later_states true [] = []
later_states true (state ∷ states) = states

-- of each of these lines its text, by those of the lines that speak of a state, in order; of another line none
abbrev pub states_for : List (List ℕ) → List (List ℕ) → List (List ℕ)
states_for [] states = []
states_for (line ∷ lines) states = first_state (is_of_state line) states ∷ states_for lines (later_states (is_of_state line) states)

-- ---- refusals that no line expects

abbrev pub is_number : ℕ → Option ℕ → Bool
is_number number None = false
is_number number (Some line) = line == number

abbrev pub form_expects : List ℕ → ℕ → ℕ → Result ExpectLine (AtWord ExpectCause) → Bool
form_expects script own number (Err cause) = false
form_expects script own number (Ok Other) = false
form_expects script own number (Ok (Rounds quantity window pattern)) = false
form_expects script own number (Ok (State time device words)) = false
form_expects script own number (Ok (Unremarked pattern)) = false
form_expects script own number (Ok (Refused name word)) = is_number number (event_meant script own name)

-- a line of the first number expects that the event of the line of the other one is refused
abbrev pub line_expects : List ℕ → ℕ → ℕ → List ℕ → Bool
line_expects script own number line = form_expects script own number (form_in (unlabelled_words (words_of line)))

-- one of these lines does, of which the first has the first number
abbrev pub lines_expect : List ℕ → ℕ → ℕ → List (List ℕ) → Bool
lines_expect script own number [] = false
lines_expect script own number (line ∷ lines) = line_expects script own number line || lines_expect script (own + 1) number lines

-- a line of the script expects that the event of this line is refused
abbrev pub is_refusal_expected : List ℕ → ℕ → Bool
is_refusal_expected script number = lines_expect script 1 number (lines_of script)
