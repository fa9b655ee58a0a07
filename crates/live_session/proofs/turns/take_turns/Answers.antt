use Rattle.std.proofs.Common.{rules, arith, ◌≡◌, ◌∷◌, ◌∙◌, subst, sym, length, Bool, None}
use Rattle.room_run.specs.declared.run.Turn.TheVariants.{Stop, Apply, Round}
use Rattle.room_run.specs.Run.{turn_of, first_time}
use Rattle.room_net.proofs.Kept.{event_keeps}
use Rattle.room_run.proofs.Advance.{next_schedule, round_begins, rounds_kept, complete_kept, refused_kept, counts_brought}
use Rattle.room_run.proofs.Running.{brings, event_happens, round_happens}
use Rattle.live_session.specs.Turns.{IsOn}
use Rattle.live_session.proofs.Fewer.{fewer, smaller}
use Rattle.live_session.proofs.Going.{drop_next, next_event, heard_is, next_round, reached_more}
use Rattle.live_session.proofs.turns.take_turns.Goals as goal

pub turns-preserved-in-Apply : goal.turns-preserved-in-Apply
turns-preserved-in-Apply g c =
    let split : c.turns.rest.now ≡ c.in-Some.event.now ∷ c.in-Some.others.now = search rules in
    let turn : turn_of c.args.until c.turns.net (first_time c.turns.rest.now) ≡ Apply c.in-Apply.at = rw (← c.first_time.ensures) (sym c.in-Apply.ensures) in
    let kept = event_keeps c.in-Apply.at c.in-Some.event.now.event c.turns.net c.take_event.new.self c.take_event.ensures.net in
    let left = drop_next c.turns.applied c.args.events.now c.turns.rest.now c.in-Some.event.now c.in-Some.others.now c.turns.invariant.rest split in
    let less = left.1 in
    record {
      reached = reached_more g.R.Reporter.hears c.args.ended c.args.until (record { net = c.args.net.now; events = c.args.events.now; totals = c.args.totals.now }) _ _ _ _ _ _ c.turns.invariant.reached
          (event_happens c.args.until c.in-Apply.at c.turns.net c.take_event.new.self c.in-Some.event.now c.turns.rest.now c.in-Some.others.now c.turns.totals c.take_event.new.totals
          split turn c.take_event.ensures.net c.take_event.ensures.totals)
          (next_event c.args.ended c.args.until c.in-Apply.at c.turns.net c.turns.rest.now _ turn) c.take_event.ensures.heard;
      rest = left.0;
      few = omega (arith, less);
      schedule = (c.in-Some.event.now.at, c.turns.invariant.schedule.1, rw kept.count (next_schedule _ _ _ _ _ _ split c.turns.invariant.schedule.2));
      closed = rw kept.close c.turns.invariant.closed;
      rested = rw kept.rest c.turns.invariant.rested;
      rounds = rw (kept.rest, c.take_event.ensures.totals) (rounds_kept _ _ _ c.turns.invariant.rounds);
      complete = rw c.take_event.ensures.totals (complete_kept _ _ c.turns.invariant.complete);
      refused = rw c.take_event.ensures.totals (refused_kept _ _ _ _ _ _ split c.turns.invariant.refused);
      tree = kept.count ∙ c.turns.invariant.tree;
    }

pub turns-smaller-in-Apply : goal.turns-smaller-in-Apply
turns-smaller-in-Apply g c =
    let split : c.turns.rest.now ≡ c.in-Some.event.now ∷ c.in-Some.others.now = search rules in
    let kept = event_keeps c.in-Apply.at c.in-Some.event.now.event c.turns.net c.take_event.new.self c.take_event.ensures.net in
    fewer c.in-Some.event.now c.in-Some.others.now c.turns.rest.now c.turns.net.rest c.take_event.new.self.rest split kept.rest

pub turns-smaller : goal.turns-smaller
turns-smaller g c =
    let turn : turn_of c.args.until c.turns.net (first_time c.turns.rest.now) ≡ Round c.in-Round.begin = rw (← c.first_time.ensures) (sym c.in-Round.ensures) in
    let begins = round_begins c.args.until c.turns.net (first_time c.turns.rest.now) c.in-Round.begin turn in
    let w = rw c.is_on.ensures.same at c.take_round.ensures.heard in
    let progress = rw c.is_on.ensures.same at c.take_round.ensures.progress in
    let brought = brings c.args.until c.in-Round.begin c.turns.net c.take_round.new.self c.turns.totals c.take_round.new.totals w.0 progress begins.1 w.1 w.2 w.3 in
    smaller (length c.turns.rest.now) c.turns.net.rest c.take_round.new.self.rest brought.sooner (omega (arith, brought.before, c.requires.early))

pub turns-preserved : goal.turns-preserved
turns-preserved g c =
    let turn : turn_of c.args.until c.turns.net (first_time c.turns.rest.now) ≡ Round c.in-Round.begin = rw (← c.first_time.ensures) (sym c.in-Round.ensures) in
    let begins = round_begins c.args.until c.turns.net (first_time c.turns.rest.now) c.in-Round.begin turn in
    let w = rw c.is_on.ensures.same at c.take_round.ensures.heard in
    let progress = rw c.is_on.ensures.same at c.take_round.ensures.progress in
    let brought = brings c.args.until c.in-Round.begin c.turns.net c.take_round.new.self c.turns.totals c.take_round.new.totals w.0 progress begins.1 w.1 w.2 w.3 in
    let counts = counts_brought c.turns.totals c.take_round.new.totals _ w.3 in
    record {
      reached = reached_more g.R.Reporter.hears c.args.ended c.args.until (record { net = c.args.net.now; events = c.args.events.now; totals = c.args.totals.now }) _ _ _ _ _ _ c.turns.invariant.reached
          (round_happens c.args.until c.in-Round.begin c.turns.net c.take_round.new.self c.turns.rest.now c.turns.totals c.take_round.new.totals w.0 turn w.1 w.2 w.3)
          (next_round c.args.ended c.args.until c.in-Round.begin c.turns.net c.take_round.new.self c.turns.rest.now c.take_round.new.totals w.0 turn (subst (λ (b : Bool). IsOn b c.args.ended c.args.until c.in-Round.begin c.turns.net) c.if-is_on.false c.is_on.ensures.on) w.1 w.2) w.4;
      rest = c.turns.invariant.rest;
      few = c.turns.invariant.few;
      schedule = (c.turns.invariant.schedule.0, c.turns.invariant.schedule.1, rw brought.tree c.turns.invariant.schedule.2);
      closed = omega (arith, brought.close, c.requires.early);
      rested = omega (arith, brought.rest, c.requires.early);
      rounds = omega (arith, counts.0, brought.sooner, c.turns.invariant.rounds);
      complete = omega (arith, counts.0, counts.1, c.turns.invariant.complete);
      refused = omega (arith, counts.2, c.turns.invariant.refused);
      tree = rw brought.tree c.turns.invariant.tree;
    }

pub returns-in-Stop-clause-heard : goal.returns-in-Stop-clause-heard
returns-in-Stop-clause-heard g c =
    let turn : turn_of c.args.until c.turns.net (first_time c.turns.rest.now) ≡ Stop = rw (← c.first_time.ensures) (sym c.in-Stop.ensures) in
    heard_is g.R.Reporter.hears c.args.ended c.args.until (record { net = c.args.net.now; events = c.args.events.now; totals = c.args.totals.now }) c.turns.net c.turns.rest.now _ c.turns.totals _ _ _ None
    c.turns.invariant.reached c.turns.invariant.rest (λ on. turn)
