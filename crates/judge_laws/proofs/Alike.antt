-- A capture of a run is judged as the run is.
use Rattle.std.proofs.Common.{◌≡◌, ℕ, nat_le, ◌&&◌, Bool, true, false, if◌then◌else◌, codes, length, map, List, [], ◌∷◌, ◌++◌, Option, Some, None, refl, sym, ap, ap₂, ◌∙◌, append-nil}
use Rattle.std.specs.List.{cons_option, filter_map, flat_map}
use Rattle.line_rounds.specs.Alone.{outcome_listed}
use Rattle.line_rounds.specs.declared.Outcome.{Outcome}
use Rattle.line_rounds.proofs.OneOutcome.{one_outcome}
use Rattle.line_reading.specs.Readings.{Listed}
use Rattle.device_core.specs.State.{State}
use Rattle.capture_monitor.specs.Watch.{reading_as}
use Rattle.capture_laws.proofs.Formats.{lines_of_runs_have_their_readings}
use Rattle.capture_laws.proofs.ReadBack.{over_by_script}
use Rattle.room_net.specs.State.{first_net}
use Rattle.room_script.proofs.Sound.{scripts_are_sound}
use Rattle.room_trace.specs.TraceText.{comma_list, loser_text, name_at}
use Rattle.room_run.specs.declared.run.Reporting.TheVariants.{Line}
use Rattle.room_run.specs.Happening.{Happening}
use Rattle.room_run.specs.Happening.Happening.{OfEvent, OfRound}
use Rattle.room_run.specs.OneRun.{rounds_of_line}
use Rattle.room_run.specs.Run.{start}
use Rattle.expect_text.specs.Fits.{fits}
use Rattle.expect_text.specs.Names.{for_first, for_name, for_names, holds_in, last_word, meets, named_in}
use Rattle.expect_judge.specs.Seen.{end_seen}
use Rattle.expect_judge.specs.Told.{RoundLine}
use Rattle.expect_judge.specs.declared.seen.TimeSpan.{TimeSpan}
use Rattle.expect_told.specs.Said.{reading_said, reading_told}
use Rattle.record_core.specs.declared.cell.Form.TheVariants.{Text}
use Rattle.expect_told.specs.Turns.{round_told, rounds_of, sent_said}
use Rattle.judge_laws.specs.Alike.{CapturesAreSeenAlike, asks_no_sender}
use Rattle.judge_laws.specs.Told.{outcomes_in}
use Rattle.judge_laws.proofs.Bare.{asks, bare_fits}
use Rattle.judge_laws.proofs.Going.{same_rounds, same_run}

-- ---- a round and its reading

-- who sent, after the word `by`
abbrev senders : List State → Outcome → List ℕ
senders devices o = comma_list (map (name_at devices) o.survivors.items) ++ (codes " out " ++ comma_list (map (loser_text devices) o.losers.items))

said_is : (devices : List State) (o : Outcome) → (round_told Text false devices o).reported ≡ reading_said o.reading ++ 32 ∷ (codes "by" ++ 32 ∷ senders devices o)
said_is devices o = append-nil (sent_said devices o)

plain_names : (may_be : List ℕ → ℕ → Bool) (is_so : List ℕ → Bool) (pattern : List ℕ) → named_in pattern ≡ None → for_names may_be is_so pattern ≡ is_so pattern
unfolding for_names for_first
plain_names may_be is_so pattern none = ap (for_name may_be (for_first may_be is_so) pattern) none ∙ ap (for_name may_be is_so pattern) none

meets_plainly : (pattern text : List ℕ) → named_in pattern ≡ None → meets pattern text ≡ fits pattern text
unfolding meets
meets_plainly pattern text none = plain_names (holds_in (last_word text)) (λ p. fits p text) pattern none

same_meets : (pattern : List ℕ) (devices : List State) (o : Outcome) → named_in pattern ≡ None → asks_no_sender pattern ≡ true → meets pattern (reading_said o.reading) ≡ meets pattern (round_told Text false devices o).reported
same_meets pattern devices o none alone =
    meets_plainly pattern (reading_said o.reading) none ∙ sym (bare_fits (senders devices o) pattern (asks pattern alone) (reading_said o.reading)) ∙ ap (fits pattern) (sym (said_is devices o))
    ∙ sym (meets_plainly pattern (round_told Text false devices o).reported none)

end_same : (span : TimeSpan) (pattern : List ℕ) (devices : List State) (o : Outcome) → named_in pattern ≡ None → asks_no_sender pattern ≡ true
    → end_seen span pattern (reading_told Text o.reading) ≡ end_seen span pattern (round_told Text false devices o)
end_same span pattern devices o none alone =
    ap (λ (m : Bool). if nat_le span.from o.reading.begin && nat_le o.reading.at span.to && m then Some o.reading.at else None) (same_meets pattern devices o none alone)

-- ---- all of them

-- what is told of each reading
abbrev listed_told : Listed → RoundLine
listed_told x = reading_told Text (reading_as x)

ends_alike : (span : TimeSpan) (pattern : List ℕ) → named_in pattern ≡ None → asks_no_sender pattern ≡ true → (xs : List Happening)
    → filter_map (end_seen span pattern) (map listed_told (map outcome_listed (flat_map outcomes_in xs))) ≡ filter_map (end_seen span pattern) (flat_map (rounds_of Text false) xs)
ends_alike span pattern none alone [] = refl
ends_alike span pattern none alone (OfEvent at e before ∷ xs) = ends_alike span pattern none alone xs
ends_alike span pattern none alone (OfRound begin before o ∷ xs) =
    ap₂ (λ (a : Option ℕ) (b : List ℕ). cons_option a b) (end_same span pattern before.devices o none alone) (ends_alike span pattern none alone xs)

pub captures_are_seen_alike : CapturesAreSeenAlike
captures_are_seen_alike format topology plain text totals happened last p q =
    let sound = scripts_are_sound q.plan.tree plain q.course q.accepted.course_is in
    let file = lines_of_runs_have_their_readings format q.plan.tree q.course.pulses q.course.events q.course.end text totals (over_by_script (length q.plan.tree) q.course sound) sound.framed q.line sound.limit in
    let same = same_run topology plain happened last q.plan q.course q.accepted p in
    let c = start (first_net q.plan.tree q.course.pulses) q.course.events in
    let rounds : rounds_of_line format topology plain text totals q ≡ flat_map outcomes_in happened =
    same_rounds one_outcome (Line format) q.course.end q.line.run.turns c q.line.run.last last q.line.run.body happened q.line.run.leads same.goes q.line.run.stops same.stops in
    let read = file.2 ∙ ap (map outcome_listed) rounds in (
      file.0,
      file.1,
      λ pattern span none alone. ap (λ (xs : List Listed). filter_map (end_seen span pattern) (map listed_told xs)) read ∙ ends_alike span pattern none alone happened,
    )
