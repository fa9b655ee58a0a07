use Rattle.std.proofs.Common.{ℕ, arith}
use Rattle.device_core.specs.State.{State}
use Rattle.room_net.specs.Start.{contends}
use Rattle.room_net.specs.Step.{device_after, is_sent}
use Rattle.room_net.proofs.Each.{each_more}
use Rattle.room_net.proofs.step.end_round.Goals as goal

pub loop-number-preserved : goal.loop-number-preserved
loop-number-preserved c =
    each_more (λ (number : ℕ) (d : State). device_after (contends c.args.rest c.args.begin d) (is_sent c.args.rest c.args.begin c.args.outcome.now c.args.devices.now) c.args.outcome.now number d)
    c.args.devices.now c.loop-number.devices c.loop-number.number c.index-devices-number.result c.end_at.new.device
    (omega arith) c.loop-number.invariant c.index-devices-number.is (cc)
