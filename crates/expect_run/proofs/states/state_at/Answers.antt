use Rattle.std.proofs.Common.{ap, ◌∙◌}
use Rattle.room_net.specs.State.{NetState}
use Rattle.expect_run.specs.States.{device_of, state_said, state_shown}
use Rattle.expect_run.proofs.states.state_at.Goals as goal

pub returns-clause-said : goal.returns-clause-said
returns-clause-said c =
    let devices = c.devices.ensures ∙ ap (λ (s : NetState). s.devices) c.deref.ensures in
    (c.in_ok-net.net.value, c.in_ok-net.ensures, c.in_ok-said.ensures ∙ ap state_said (c.device_of-device.ensures ∙ ap (device_of c.args.device.now) devices))

pub returns-clause-shown : goal.returns-clause-shown
returns-clause-shown c =
    let devices = c.devices.ensures ∙ ap (λ (s : NetState). s.devices) c.deref.ensures in
    (c.in_ok-net.net.value, c.in_ok-net.ensures, c.in_ok-shown.ensures ∙ ap (state_shown c.args.form) (c.device_of-device.ensures ∙ ap (device_of c.args.device.now) devices))
