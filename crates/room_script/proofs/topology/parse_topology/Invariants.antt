use Rattle.std.proofs.Common.{◌≡◌, ◌+◌, ◌≤◌, length}
use Rattle.text_core.specs.Lines.{lines_of}
use Rattle.room_script.specs.Topology.{lines_read, topology_of, plan_of}
use Rattle.room_script.proofs.topology.parse_topology.Given as goal

-- what is read so far and the lines that are left give what all lines give
abbrev pub invariant-loop-line : goal.invariant-loop-line
invariant-loop-line l = record {
  reads : lines_read (lines_of l.rest) l.number (plan_of l.topology) ≡ topology_of l.text;
  counts : l.number + length l.rest ≤ length l.text + 1;
}

abbrev pub decreases-loop-line : goal.decreases-loop-line
decreases-loop-line l = length l.rest
