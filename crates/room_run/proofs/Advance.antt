-- How far a turn brings the run, and what it counts.
use Rattle.std.proofs.Common.{◌≡◌, ℕ, suc, ◌+◌, ◌-◌, ◌<◌, ◌≤◌, Bool, true, false, nat_lt, max, if◌then◌else◌, List, ◌∷◌, length, filter, Option, Some, None, ap, sym, refl, subst, arith}
use Rattle.std.proofs.lemmas.Bool.Decides.{nat_tests}
use Rattle.line_wave.specs.declared.Stretch.{Stretch}
use Rattle.line_wave.specs.Line.{IsWave}
use Rattle.line_wave.specs.Bounds.{latest_event, latest_instant}
use Rattle.line_wave.proofs.Kept.{wave_filter}
use Rattle.line_rounds.specs.declared.Outcome.{Outcome}
use Rattle.line_rounds.specs.Round.{close_in}
use Rattle.room_script.specs.Script.{IsSchedule}
use Rattle.room_event.specs.declared.event.EventError.{EventError}
use Rattle.room_net.specs.State.{NetState, next_start}
use Rattle.room_net.specs.Progress.{IsProgress}
use Rattle.room_run.specs.declared.run.Totals.{Totals}
use Rattle.room_run.specs.declared.run.Reporting.{Reporting}
use Rattle.room_run.specs.declared.run.Turn.TheVariants.{Stop, Apply, Round}
use Rattle.room_run.specs.Turns.{Brought, EventsAreRefused, EventsKeepComplete, EventsKeepRounds, RoundTurnsBegin, RoundsAreCounted, SchedulesGoOn}
use Rattle.room_run.specs.Run.{IsRoundTurn, counted_event, counted_round, turn_of, is_by, round_turn, event_turn}

-- the events that are left
pub next_schedule : SchedulesGoOn
next_schedule count end from rest e others split s = (subst (IsSchedule count end from) split s).3

-- a round's turn begins at the next start, before the end
pub round_begins : RoundTurnsBegin
round_begins end s time x h = by_time time h
  where
    from_round : (o : Option ℕ) → round_turn end o ≡ Round x → (o ≡ Some x) × (x < end)
    from_round None k = cc
    from_round (Some begin) k = step (nat_lt begin end) refl k
      where
        step : (b : Bool) → nat_lt begin end ≡ b → (if b then Round begin else Stop) ≡ Round x → (Some begin ≡ Some x) × (x < end)
        step true g l = let same : begin ≡ x = cc in (ap Some same, grind (arith, nat_tests))
        step false g l = cc

    not_event : (at : ℕ) (b : Bool) → (if b then Apply at else Stop) ≡ Round x → ⊥
    not_event at true k = cc
    not_event at false k = cc

    by_test : (at : ℕ) (b : Bool) → (if b then event_turn end at else round_turn end (next_start s)) ≡ Round x → (next_start s ≡ Some x) × (x < end)
    by_test at true k = absurd (not_event at (nat_lt at end) k)
    by_test at false k = from_round (next_start s) k

    by_time : (t : Option ℕ) → turn_of end s t ≡ Round x → (next_start s ≡ Some x) × (x < end)
    by_time None k = from_round (next_start s) k
    by_time (Some at) k = by_test (max s.close at) (is_by (max s.close at) (next_start s)) k

-- what a state keeps after a round
record Rested (s t : NetState) : Type 0 where
  rest : t.rest ≤ t.close
  tree : t.tree ≡ s.tree

pub round_brings : (reporting : Reporting) (end begin : ℕ) (s t : NetState) (totals counted : Totals) (line : List ℕ) → IsProgress s begin t → begin < end
    → IsRoundTurn reporting begin s totals line t counted → Brought end s t
round_brings reporting end begin s t totals counted line p soon turn =
    let rested : Rested s t = subst (Rested s) (sym turn.next.after_is) (record { rest = rest_first turn.outcome; tree = refl }) in
    record {
      sooner = omega (arith, p.later, p.low);
      before = omega (arith, p.later);
      close = omega (arith, p.closed, soon);
      rest = omega (arith, p.closed, rested.rest, soon);
      tree = rested.tree;
    }
  where
    rest_first : (o : Outcome) → o.rest ≤ close_in o
    rest_first o = omega arith

-- the pulls that are left after a round are in order
pub left_in_order : (rest : ℕ) (ps : List Stretch) → IsWave ps → IsWave (filter (λ q. nat_lt rest q.from) ps)
left_in_order rest ps h = wave_filter (λ (q : Stretch). nat_lt rest q.from) ps h

pub smaller : (events old new : ℕ) → old < new → old < latest_event → events + (latest_instant - new) < events + (latest_instant - old)
smaller events old new sooner before = omega arith

-- one event less is left
pub fewer : {X : Type 0} (event : X) (others events : List X) (old new : ℕ) → events ≡ event ∷ others → new ≡ old → length others + (latest_instant - new) < length events + (latest_instant - old)
fewer event others events old new split same =
    let left : length events ≡ suc (length others) = ap length split in
    omega (arith, left, same)

-- ---- counts

pub rounds_kept : EventsKeepRounds
rounds_kept None totals rest h = h
rounds_kept (Some error) totals rest h = h

pub complete_kept : EventsKeepComplete
complete_kept None totals h = h
complete_kept (Some error) totals h = h

refused_by : (fault : Option EventError) (totals : Totals) → (counted_event fault totals).refused ≤ totals.refused + 1
refused_by None totals = omega arith
refused_by (Some error) totals = omega arith

pub refused_kept : EventsAreRefused
refused_kept fault totals rest e others most split h =
    let more : length rest ≡ suc (length others) = ap length split in
    omega (arith, refused_by fault totals)

pub counts_brought : RoundsAreCounted
counts_brought old new is e = subst (λ t. (t.rounds ≡ old.rounds + 1) × (t.complete ≤ old.complete + 1) × (t.refused ≡ old.refused)) (sym e) (by is)
  where
    by : (b : Bool) → ((counted_round b old).rounds ≡ old.rounds + 1) × ((counted_round b old).complete ≤ old.complete + 1) × ((counted_round b old).refused ≡ old.refused)
    by true = (refl, omega arith, refl)
    by false = (refl, omega arith, refl)
