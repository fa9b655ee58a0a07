use Rattle.std.proofs.Common.{rules, ◌≡◌, ◌∙◌, ◌||◌, List, Err, ap, sym, slice_get}
use Rattle.room_steps.specs.Steps.{is_write}
use Rattle.room_steps.specs.declared.stepper.StepError.{StepError}
use Rattle.device_core.specs.State.{State}
use Rattle.room_steps.proofs.Taken.{shown_cut, shown_reported}
use Rattle.room_steps.proofs.walk.Walk.show.Goals as goal

pub returns-in-Err-clause-step : goal.returns-in-Err-clause-step
returns-in-Err-clause-step g c =
    let d = c.device.result.now in
    let formed : c.self.inside.input.form ≡ c.args.self.now.run.form = search rules in
    let found = sym (ap (λ (ds : List State). slice_get ds c.args.device) c.shown.ensures.devices) ∙ c.device.ensures in
    shown_cut c.args.self.now c.args.device c.self.inside.input.form d (g.S.Sink.contents c.args.out.now) (g.S.Sink.contents c.write_state.new.out) (g.S.Sink.is_stuck c.args.out.now) (g.S.Sink.is_stuck c.write_state.new.out)
    c.in-Err.fault c.step_error.result formed found c.step_error.ensures c.in-Err.ensures

pub returns-in-Ok-clause-step : goal.returns-in-Ok-clause-step
returns-in-Ok-clause-step g c =
    let d = c.device.result.now in
    let formed : c.self.inside.input.form ≡ c.args.self.now.run.form = search rules in
    let found = sym (ap (λ (ds : List State). slice_get ds c.args.device) c.shown.ensures.devices) ∙ c.device.ensures in
    shown_reported c.args.self.now c.args.device c.self.inside.input.form d (g.S.Sink.contents c.args.out.now) (g.S.Sink.contents c.write_state.new.out) (g.S.Sink.is_stuck c.args.out.now) (g.S.Sink.is_stuck c.write_state.new.out)
    c.in-Ok.count formed found c.in-Ok.ensures

pub returns-in-Err-clause-flag : goal.returns-in-Err-clause-flag
returns-in-Err-clause-flag g c = c.in-Err.ensures.1 ∙ sym (ap (λ (e : StepError). is_write (Err e) || g.S.Sink.is_stuck c.args.out.now) c.step_error.ensures)

pub returns-in-Ok-clause-flag : goal.returns-in-Ok-clause-flag
returns-in-Ok-clause-flag g c = c.in-Ok.ensures.2
