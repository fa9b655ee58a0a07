use Rattle.std.proofs.Common.{◌∙◌, ap, sym}
use Rattle.room_steps.specs.Steps.{turn_at}
use Rattle.room_steps.proofs.Passing.{heard_none}
use Rattle.room_steps.proofs.Rounds.{heard_more, none_at_round, none_at_stop, over_round, over_stop, pass_more, rest_more}
use Rattle.room_steps.proofs.position.Position.to_round.Goals as goal

pub events-preserved : goal.events-preserved
events-preserved g c =
    let es = c.args.input.now.events.items in
    let e = c.pass_event.ensures in
    record {
      point = pass_more c.args.input.now.end c.in-Apply.at es c.events.self c.pass_event.new.self (sym c.in-Apply.ensures) e.point ∙ c.events.invariant.point;
      rest = rest_more c.in-Apply.at es c.events.self c.pass_event.new.self e.point ∙ c.events.invariant.rest;
      ready = e.ready;
      heard = heard_more g.R.Reporter.hears c.args.input.now.end c.in-Apply.at es c.events.self c.pass_event.new.self _ _ _ _ (sym c.in-Apply.ensures) e.point e.heard c.events.invariant.heard;
    }

pub returns-in-Round-clause-point : goal.returns-in-Round-clause-point
returns-in-Round-clause-point g c =
    over_round c.args.input.now.end c.in-Round.begin c.args.input.now.events.items c.events.self (sym c.in-Round.ensures) ∙ c.events.invariant.point

pub returns-in-Round-clause-comes : goal.returns-in-Round-clause-comes
returns-in-Round-clause-comes g c =
    let there = over_round c.args.input.now.end c.in-Round.begin c.args.input.now.events.items c.events.self (sym c.in-Round.ensures) ∙ c.events.invariant.point in
    ap (turn_at c.args.input.now.end) (sym there) ∙ sym c.in-Round.ensures

pub returns-in-Round-clause-heard : goal.returns-in-Round-clause-heard
returns-in-Round-clause-heard g c =
    heard_none g.R.Reporter.hears _ _ _ _ (none_at_round c.args.input.now.end c.in-Round.begin c.args.input.now.events.items c.events.self (sym c.in-Round.ensures)) c.events.invariant.heard

pub returns-in-Stop-clause-point : goal.returns-in-Stop-clause-point
returns-in-Stop-clause-point g c =
    over_stop c.args.input.now.end c.args.input.now.events.items c.events.self (sym c.in-Stop.ensures) ∙ c.events.invariant.point

pub returns-in-Stop-clause-comes : goal.returns-in-Stop-clause-comes
returns-in-Stop-clause-comes g c =
    let there = over_stop c.args.input.now.end c.args.input.now.events.items c.events.self (sym c.in-Stop.ensures) ∙ c.events.invariant.point in
    ap (turn_at c.args.input.now.end) (sym there) ∙ sym c.in-Stop.ensures

pub returns-in-Stop-clause-heard : goal.returns-in-Stop-clause-heard
returns-in-Stop-clause-heard g c =
    heard_none g.R.Reporter.hears _ _ _ _ (none_at_stop c.args.input.now.end c.args.input.now.events.items c.events.self (sym c.in-Stop.ensures)) c.events.invariant.heard
