use Rattle.std.proofs.Common.{rules, ◌≡◌, ◌∙◌, suc, sym, subst}
use Rattle.room_steps.specs.Ready.{IsReady, point_of, run_of}
use Rattle.room_steps.specs.Steps.{Run, IsRoundStep}
use Rattle.room_steps.specs.declared.position.Position.{Position}
use Rattle.room_steps.proofs.Rounds.{alike_point}
use Rattle.room_steps.proofs.Taken.{skips_then, step_from}
use Rattle.room_steps.proofs.walk.Walk.search.Goals as goal

pub rounds-preserved : goal.rounds-preserved
rounds-preserved c =
    let run = c.args.self.now.run in
    let inv = c.rounds.invariant in
    let e = c.in-Some.ensures in
    let outcome = c.in-Some.report.outcome in
    let input = c.self.inside.input in
    let viewed : run_of input ≡ run = search rules in
    let copied = alike_point input.events.items c.copy_from.new.self c.rounds.before c.copy_from.ensures in
    let step = step_from input run c.copy_from.new.self c.rounds.before c.pass_round.new.self outcome viewed copied e.step in
    let ready = subst (λ (r : Run). IsReady r.end (point_of r.events c.pass_round.new.self)) viewed e.ready in
    let swapped : c.pass_round.new.self ≡ c.swap.new.x = sym c.swap.ensures.x_after in
    let here = point_of run.events c.rounds.before in
    record {
      skips = (suc inv.skips.0, (here, outcome, inv.skips.1, subst (λ (p : Position). IsRoundStep run.end here outcome (point_of run.events p)) swapped step, sym c.stops.ensures ∙ c.if-stops.false));
      ready = subst (λ (p : Position). IsReady run.end (point_of run.events p)) swapped ready;
    }

pub leaps-preserved : goal.leaps-preserved
leaps-preserved c =
    let run = c.args.self.now.run in
    let inv = c.leaps.invariant in
    let e = c.leap.ensures in
    record {
      skips = skips_then run.end c.args.at inv.skips.0 e.skips.0 c.args.self.now.last (point_of run.events c.leaps.before) (point_of run.events c.leap.new.here) inv.skips.1 e.skips.1;
      ready = e.ready;
    }

pub rounds-init : goal.rounds-init
rounds-init c =
    let run = c.args.self.now.run in
    let inv = c.leaps.invariant in
    let e = c.leap.ensures in
    record {
      skips = skips_then run.end c.args.at inv.skips.0 e.skips.0 c.args.self.now.last (point_of run.events c.leaps.before) (point_of run.events c.leap.new.here) inv.skips.1 e.skips.1;
      ready = e.ready;
    }
