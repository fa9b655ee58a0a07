-- What a report needs of what is told of a run (own): the events that a label names or that are refused, and the rounds that meet an
-- expectation as far as that is known before the run. Where an expectation fails that no round meets, the rounds in its window are
-- shown, and all is needed.
use Rattle.std.specs.Prelude.{ℕ, ◌+◌, ◌-◌, ◌^◌, ◌==◌, nat_le, min, ◌&&◌, ◌||◌, Bool, true, false, if◌then◌else◌, codes, filter, List, [], ◌∷◌, ◌++◌, Option, Some, None, is_some, Result, Ok, Err}
use Rattle.std.specs.List.{filter_map, list_all, list_any}
use Rattle.std.specs.Str.{bytes_eq}
use Rattle.line_rounds.specs.Bounds.{longest_pulsed_round}
use Rattle.text_core.specs.Lines.{lines_of}
use Rattle.text_core.specs.Number.{number_of}
use Rattle.text_core.specs.Words.{words_of}
use Rattle.expect_text.specs.Names.{meets}
use Rattle.expect_text.specs.Line.{unlabelled_words}
use Rattle.expect_text.specs.Faults.{line_of_label}
use Rattle.expect_text.specs.Form.{ExpectLine, ExpectWindow, form_in}
use Rattle.expect_text.specs.Form.ExpectLine.{Other, Rounds, State, Refused, Unremarked}
use Rattle.expect_text.specs.Form.ExpectWindow.{Within, From}
use Rattle.text_core.specs.declared.at.AtWord.{AtWord}
use Rattle.expect_text.specs.declared.form.ExpectCause.{ExpectCause}
use Rattle.expect_judge.specs.Told.{EventLine, RoundLine, Told}
use Rattle.expect_judge.specs.Named.{is_labelled, is_named}
use Rattle.expect_judge.specs.Judged.{instant_at}
use Rattle.expect_judge.specs.declared.judge.Judged.{Judged}
use Rattle.expect_judge.specs.declared.seen.TimeSpan.{TimeSpan}
use Rattle.expect_run.specs.declared.watch.Watch.{Watch as WatchRead}

-- ---- the times of events

-- `at T ..`
abbrev pub time_in : List (List ℕ) → Option ℕ
time_in [] = None
time_in (verb ∷ []) = None
time_in (verb ∷ time ∷ words) = if bytes_eq verb (codes "at") then number_of time else None

abbrev pub labelled_time : List ℕ → Option ℕ
labelled_time line = if is_labelled line then time_in (unlabelled_words (words_of line)) else None

-- of the line of this number, where the first of these has the other one
abbrev pub times_from : ℕ → List (List ℕ) → ℕ → Option ℕ
times_from first [] number = None
times_from first (line ∷ lines) number = if first == number then labelled_time line else times_from (first + 1) lines number

-- the time that a line of the script gives its event, where it has a label
abbrev pub time_at : List ℕ → ℕ → Option ℕ
time_at script number = times_from 1 (lines_of script) number

-- an event in the middle of a round waits for the round's close
abbrev pub longest_wait : ℕ
longest_wait = longest_pulsed_round

-- an event was applied no earlier than at its time, and no later than so long after it
abbrev pub is_at : ℕ → Option ℕ → Bool
is_at at None = true
is_at at (Some time) = nat_le time at && nat_le at (time + longest_wait)

abbrev pub is_timed : List ℕ → EventLine → Bool
is_timed script e = is_at e.at (time_at script e.line)

abbrev pub are_timed : List ℕ → List EventLine → Bool
are_timed script events = list_all (is_timed script) events

-- ---- what is looked for

-- from the time of a label on, or later by a wait
abbrev pub known_from : ℕ → Option ℕ → Option TimeSpan
known_from duration None = None
known_from duration (Some time) = Some (record { from = time; to = min (time + duration + longest_wait) (2 ^ 64 - 1) })

-- the span that a window lies in, where it is known before the run, by the times of lines: of an expectation's label it is not
abbrev pub known_span : List ℕ → (ℕ → Option ℕ) → ExpectWindow → Option TimeSpan
known_span script times (Within duration name) = known_from duration (instant_at times (line_of_label script name))
known_span script times (From from to) = Some (record { from = from; to = to })

-- what an expectation of rounds looks for, and the span in which it can be met, where that is known
pub record Watch : Type 0 where
  pub span : Option TimeSpan
  pub pattern : List ℕ

abbrev pub watch_as : WatchRead → Watch
watch_as w = record { span = w.span; pattern = w.pattern.now }

abbrev pub watch_by : List ℕ → (ℕ → Option ℕ) → Result ExpectLine (AtWord ExpectCause) → Option Watch
watch_by script times (Err cause) = None
watch_by script times (Ok Other) = None
watch_by script times (Ok (Rounds quantity window pattern)) = Some (record { span = known_span script times window; pattern = pattern })
watch_by script times (Ok (State time device words)) = None
watch_by script times (Ok (Refused name word)) = None
watch_by script times (Ok (Unremarked pattern)) = None

abbrev pub watch_of : List ℕ → (ℕ → Option ℕ) → List ℕ → Option Watch
watch_of script times line = watch_by script times (form_in (unlabelled_words (words_of line)))

-- those of the lines of a script, by the times of another's
abbrev pub watches_by : List ℕ → List ℕ → List Watch
watches_by script other = filter_map (watch_of script (time_at other)) (lines_of script)

abbrev pub watches_of : List ℕ → List Watch
watches_of script = watches_by script script

abbrev pub is_within : Option TimeSpan → RoundLine → Bool
is_within None r = true
is_within (Some span) r = nat_le span.from r.begin && nat_le r.at span.to

-- a round is in the span, if that is known, and what its line says meets the pattern
abbrev pub is_met : RoundLine → Watch → Bool
is_met r w = is_within w.span r && meets w.pattern r.reported

-- ---- what is kept

-- a round is needed where it meets one of these
abbrev pub is_round_kept : List ℕ → RoundLine → Bool
is_round_kept script r = list_any (is_met r) (watches_of script)

-- an event of a line with a label, or one that is refused
abbrev pub is_event_kept : List ℕ → EventLine → Bool
is_event_kept script e = is_named script e.line || is_some e.refused

abbrev pub kept : List ℕ → Told → Told
kept script told = record { rounds = filter (is_round_kept script) told.rounds; events = filter (is_event_kept script) told.events }

-- one thing is told, and then another
abbrev pub joined : Told → Told → Told
joined t u = record { rounds = t.rounds ++ u.rounds; events = t.events ++ u.events }

-- what is needed, or all
abbrev pub kept_if : Bool → List ℕ → Told → Told
kept_if true script told = told
kept_if false script told = kept script told

-- ---- whether that is enough

abbrev pub has_failed : Option Bool → Bool
has_failed None = false
has_failed (Some true) = false
has_failed (Some false) = true

-- it failed, and no round in its window meets its pattern
abbrev pub is_unmet : Judged → Bool
is_unmet j = has_failed j.holds && is_some j.span && (j.count == 0)
