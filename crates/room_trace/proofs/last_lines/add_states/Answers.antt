use Rattle.std.proofs.Common.{rules}
use Rattle.text_core.proofs.Adding.{more}
use Rattle.room_trace.specs.Records.{state_text}
use Rattle.room_trace.proofs.last_lines.add_states.Goals as goal

pub loop-device-preserved : goal.loop-device-preserved
loop-device-preserved g c =
    more (state_text c.args.form) c.args.devices.now c.loop-device.device-index c.device-item.result _ _ _ c.loop-device-test.true (search rules) c.loop-device.invariant c.add_state.ensures
