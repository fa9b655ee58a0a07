use Rattle.std.proofs.Common.{◌-◌}
use Rattle.line_wave.specs.Bounds.{latest_heard}
use Rattle.line_wire.specs.Wired.{SameRound}
use Rattle.room_net.specs.Underway.{Takes}
use Rattle.room_net.proofs.underway.outcome_of.Given as goal

-- the wire stands in the round
abbrev pub invariant-edges : goal.invariant-edges
invariant-edges l = record {
  takes : Takes l.pulses l.wire;
  same : SameRound l.initial.wire l.wire;
}

abbrev pub decreases-edges : goal.decreases-edges
decreases-edges l = latest_heard - l.wire.time
