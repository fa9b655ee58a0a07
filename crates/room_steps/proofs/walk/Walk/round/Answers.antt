use Rattle.std.proofs.Common.{rules, ◌≡◌, ◌∙◌, refl, sym, subst}
use Rattle.room_steps.specs.Ready.{point_of, run_of}
use Rattle.room_steps.specs.Steps.{Point, IsRoundStep}
use Rattle.room_steps.proofs.Taken.{step_from, taken_round}
use Rattle.room_steps.proofs.walk.Walk.round.Goals as goal

pub returns-clause-step : goal.returns-clause-step
returns-clause-step g c =
    let run = c.args.self.now.run in
    let outcome = c.in-Some.report.outcome in
    let input = c.self.inside.input in
    let next = point_of run.events c.pass_round.new.self in
    let viewed : run_of input ≡ run = search rules in
    let here = step_from input run c.copy_last.new.place c.copy_last.new.place c.pass_round.new.self outcome viewed refl c.in-Some.ensures.step in
    let step = subst (λ (p : Point). IsRoundStep run.end p outcome next) (c.copy_last.ensures.last ∙ sym c.copy_last-2.ensures.last) here in
    taken_round c.args.self.now c.take.new.self (point_of run.events c.copy_last-2.new.place) next outcome
    (g.S.Sink.contents c.args.out.now) (g.S.Sink.contents c.take.new.out) c.take.result c.copy_last-2.ensures.last step c.take.ensures.step
