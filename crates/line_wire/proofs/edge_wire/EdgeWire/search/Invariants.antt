use Rattle.std.proofs.Common.{◌-◌, List}
use Rattle.line_wave.specs.declared.Stretch.{Stretch}
use Rattle.line_wave.specs.Bounds.{latest_heard}
use Rattle.line_wire.specs.Wired.{Follow, IsBegunWith}
use Rattle.line_wire.proofs.Searching.{Goes}
use Rattle.line_wire.proofs.edge_wire.EdgeWire.search.Given as goal

-- no edge so far
abbrev pub invariant-wakes : goal.invariant-wakes
invariant-wakes l = (past : List Stretch) → IsBegunWith past l.initial.self → Follow past l.coming l.initial.self.time → Goes past l.coming l.initial.self l.self

abbrev pub decreases-wakes : goal.decreases-wakes
decreases-wakes l = latest_heard - l.self.time
