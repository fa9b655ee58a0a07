use Rattle.std.proofs.Common.{rules, subst, Err}
use Rattle.room_steps.specs.Steps.{IsTaken}
use Rattle.record_core.specs.declared.cell.Form.{Form}
use Rattle.text_core.specs.Cut.{WrittenText}
use Rattle.room_steps.specs.StepRun.{IsNoStep, IsStep, ended_text}
use Rattle.room_steps.specs.declared.stepper.StepError.{StepError}
use Rattle.room_steps.proofs.Due.{ended}
use Rattle.room_steps.proofs.step_run.take_command.Goals as goal

pub returns-in-Ended : goal.returns-in-Ended
returns-in-Ended g c =
    let old = g.S.Sink.contents c.args.out.now in
    let mid = g.S.Sink.contents c.take_step.new.out in
    let new = g.S.Sink.contents c.write_ended.new.out in
    let between = g.S.Sink.is_stuck c.take_step.new.out in
    let is = g.S.Sink.is_stuck c.write_ended.new.out in
    let s = c.args.stepper.now in
    let t = c.take_step.new.stepper in
    let taken = subst (λ (error : StepError). IsTaken (IsStep c.args.command s) (IsNoStep c.args.command s) s t old mid (Err error)) c.in-Ended.is c.in-Err.ensures.step in
    let wrote = subst (λ (form : Form). WrittenText mid new between is (ended_text form) c.write_ended.result) c.form-form.ensures c.write_ended.ensures in
    ended c.args.command s t old mid new (g.S.Sink.is_stuck c.args.out.now) between is c.write_ended.result taken (search rules) wrote
