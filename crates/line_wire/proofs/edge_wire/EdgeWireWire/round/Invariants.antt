use Rattle.std.proofs.Common.{◌-◌}
use Rattle.line_wave.specs.Bounds.{latest_heard}
use Rattle.line_wire.proofs.Rounding.{Rounds}
use Rattle.line_wire.proofs.edge_wire.EdgeWireWire.round.Given as goal

-- some pulls have begun, and no other has
abbrev pub invariant-edges : goal.invariant-edges
invariant-edges l = Rounds l.seats l.start l.pulls l.self

abbrev pub decreases-edges : goal.decreases-edges
decreases-edges l = latest_heard - l.self.time
