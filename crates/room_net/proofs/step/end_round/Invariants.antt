use Rattle.std.proofs.Common.{◌≡◌, ◌++◌, take, drop}
use Rattle.room_net.specs.Start.{contends}
use Rattle.room_net.specs.State.{each_from}
use Rattle.room_net.specs.Step.{device_after, is_sent}
use Rattle.room_net.proofs.step.end_round.Given as goal

-- the round has ended for the devices before the number
abbrev pub invariant-loop-number : goal.invariant-loop-number
invariant-loop-number l =
    l.devices ≡ each_from 0 (λ number d. device_after (contends l.rest l.begin d) (is_sent l.rest l.begin l.outcome l.initial.devices) l.outcome number d)
    (take l.number l.initial.devices) ++ drop l.number l.initial.devices
