use Rattle.std.proofs.Common.{rules, ◌≡◌, ◌∙◌, suc, inr, refl, sym, subst}
use Rattle.room_steps.specs.Ready.{IsReady, point_of, run_of}
use Rattle.room_steps.specs.Steps.{Run}
use Rattle.room_steps.proofs.Taken.{brings_from, brings_then, step_from}
use Rattle.room_steps.proofs.walk.Walk.leap.Goals as goal

pub rounds-preserved : goal.rounds-preserved
rounds-preserved c =
    let run = c.args.self.now.run in
    let inv = c.rounds.invariant in
    let e = c.in-Some.ensures in
    let outcome = c.in-Some.report.outcome in
    let input = c.self.inside.input in
    let viewed : run_of input ≡ run = search rules in
    let here = point_of run.events c.rounds.ahead in
    let next = point_of run.events c.pass_round.new.self in
    let step = step_from input run c.rounds.ahead c.rounds.ahead c.pass_round.new.self outcome viewed refl e.step in
    let brings = brings_from input run c.rounds.ahead c.rounds.ahead c.pass_round.new.self viewed refl e.brings in
    record {
      skips = (suc inv.skips.0, (here, outcome, inv.skips.1, step, sym c.stops.ensures ∙ c.if-stops.false));
      ready = subst (λ (r : Run). IsReady r.end (point_of r.events c.pass_round.new.self)) viewed e.ready;
      goes = inr (brings_then run.end c.rounds.counter (point_of run.events c.args.here.now) here next inv.goes brings);
    }
