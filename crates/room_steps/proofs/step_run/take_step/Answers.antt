use Rattle.std.proofs.Common.{sym, subst}
use Rattle.room_steps.specs.Steps.{IsTaken}
use Rattle.room_steps.specs.StepRun.{IsNoStep, IsStep}
use Rattle.room_step_text.specs.declared.commands.StepCommand.{StepCommand}
use Rattle.room_steps.proofs.step_run.take_step.Goals as goal

pub returns-in-Until-clause-step : goal.returns-in-Until-clause-step
returns-in-Until-clause-step g c =
    subst (λ (command : StepCommand). IsTaken (IsStep command c.args.stepper.now) (IsNoStep command c.args.stepper.now) c.args.stepper.now c.until.new.self (g.S.Sink.contents c.args.out.now) (g.S.Sink.contents c.until.new.out) c.until.result)
    (sym c.in-Until.is) c.until.ensures.step
