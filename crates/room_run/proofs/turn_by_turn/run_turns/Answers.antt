use Rattle.std.proofs.Common.{rules, arith, ◌≡◌, ◌∷◌, sym, length}
use Rattle.room_run.specs.declared.run.Turn.TheVariants.{Apply, Round}
use Rattle.room_run.specs.Run.{turn_of, first_time, start}
use Rattle.room_net.proofs.Kept.{event_keeps}
use Rattle.room_run.proofs.Advance.{next_schedule, round_begins, smaller, fewer, rounds_kept, complete_kept, refused_kept, counts_brought}
use Rattle.room_net.specs.Step.{IsNextRound}
use Rattle.room_run.proofs.Running.{brings, event_happens, reached_more, round_happens}
use Rattle.room_run.proofs.turn_by_turn.run_turns.Goals as goal

pub turns-preserved-in-Apply : goal.turns-preserved-in-Apply
turns-preserved-in-Apply g c =
    let split : c.turns.rest.now ≡ c.in-Some.event.now ∷ c.in-Some.others.now = search rules in
    let turn : turn_of c.args.end c.turns.net (first_time c.turns.rest.now) ≡ Apply c.in-Apply.at = rw (← c.first_time.ensures) (sym c.in-Apply.ensures) in
    let kept = event_keeps c.in-Apply.at c.in-Some.event.now.event c.turns.net c.take_event.new.net c.take_event.ensures.net in
    record {
      reached = reached_more g.R.Reporter.hears c.args.end (start c.args.net.now c.args.events.now) _ _ _ _ _ _ c.turns.invariant.reached
          (event_happens c.args.end c.in-Apply.at c.turns.net c.take_event.new.net c.in-Some.event.now c.turns.rest.now c.in-Some.others.now c.turns.totals c.take_event.new.totals
          split turn c.take_event.ensures.net c.take_event.ensures.totals) c.take_event.ensures.heard;
      schedule = (c.in-Some.event.now.at, rw kept.count (next_schedule _ _ _ _ _ _ split c.turns.invariant.schedule.1));
      closed = rw kept.close c.turns.invariant.closed;
      rested = rw kept.rest c.turns.invariant.rested;
      rounds = rw (kept.rest, c.take_event.ensures.totals) (rounds_kept _ _ _ c.turns.invariant.rounds);
      complete = rw c.take_event.ensures.totals (complete_kept _ _ c.turns.invariant.complete);
      refused = rw c.take_event.ensures.totals (refused_kept _ _ _ _ _ _ split c.turns.invariant.refused);
    }

pub turns-smaller-in-Apply : goal.turns-smaller-in-Apply
turns-smaller-in-Apply g c =
    let split : c.turns.rest.now ≡ c.in-Some.event.now ∷ c.in-Some.others.now = search rules in
    let kept = event_keeps c.in-Apply.at c.in-Some.event.now.event c.turns.net c.take_event.new.net c.take_event.ensures.net in
    fewer c.in-Some.event.now c.in-Some.others.now c.turns.rest.now c.turns.net.rest c.take_event.new.net.rest split kept.rest

pub turns-smaller : goal.turns-smaller
turns-smaller g c =
    let turn : turn_of c.args.end c.turns.net (first_time c.turns.rest.now) ≡ Round c.in-Round.begin = rw (← c.first_time.ensures) (sym c.in-Round.ensures) in
    let begins = round_begins c.args.end c.turns.net (first_time c.turns.rest.now) c.in-Round.begin turn in
    let same = c.outcome_at-outcome.ensures.same in
    let next : IsNextRound c.turns.net c.in-Round.begin c.outcome_at-outcome.result c.take_round.new.net = record { round = c.outcome_at-outcome.ensures.round; after_is = rw same at c.take_round.ensures.state } in
    let progress = rw same at c.take_round.ensures.progress in
    let brought = brings c.args.end c.in-Round.begin c.turns.net c.take_round.new.net c.turns.totals c.take_round.new.totals c.outcome_at-outcome.result progress begins.1 c.outcome_at-outcome.ensures.wave next c.take_round.ensures.totals in
    smaller (length c.turns.rest.now) c.turns.net.rest c.take_round.new.net.rest brought.sooner (omega (arith, brought.before, c.requires.early))

pub turns-preserved : goal.turns-preserved
turns-preserved g c =
    let turn : turn_of c.args.end c.turns.net (first_time c.turns.rest.now) ≡ Round c.in-Round.begin = rw (← c.first_time.ensures) (sym c.in-Round.ensures) in
    let begins = round_begins c.args.end c.turns.net (first_time c.turns.rest.now) c.in-Round.begin turn in
    let same = c.outcome_at-outcome.ensures.same in
    let next : IsNextRound c.turns.net c.in-Round.begin c.outcome_at-outcome.result c.take_round.new.net = record { round = c.outcome_at-outcome.ensures.round; after_is = rw same at c.take_round.ensures.state } in
    let progress = rw same at c.take_round.ensures.progress in
    let brought = brings c.args.end c.in-Round.begin c.turns.net c.take_round.new.net c.turns.totals c.take_round.new.totals c.outcome_at-outcome.result progress begins.1 c.outcome_at-outcome.ensures.wave next c.take_round.ensures.totals in
    let counts = counts_brought c.turns.totals c.take_round.new.totals _ c.take_round.ensures.totals in
    record {
      reached = reached_more g.R.Reporter.hears c.args.end (start c.args.net.now c.args.events.now) _ _ _ _ _ _ c.turns.invariant.reached
          (round_happens c.args.end c.in-Round.begin c.turns.net c.take_round.new.net c.turns.rest.now c.turns.totals c.take_round.new.totals c.outcome_at-outcome.result
          turn c.outcome_at-outcome.ensures.wave next c.take_round.ensures.totals) (rw same at c.take_round.ensures.heard);
      schedule = (c.turns.invariant.schedule.0, rw brought.tree c.turns.invariant.schedule.1);
      closed = omega (arith, brought.close, c.requires.early);
      rested = omega (arith, brought.rest, c.requires.early);
      rounds = omega (arith, counts.0, brought.sooner, c.turns.invariant.rounds);
      complete = omega (arith, counts.0, counts.1, c.turns.invariant.complete);
      refused = omega (arith, counts.2, c.turns.invariant.refused);
    }
