use Rattle.std.proofs.Common.{◌≡◌, ◌+◌, ◌≤◌, length}
use Rattle.capture_monitor.specs.EdgeFile.{file_of, file_left, with_edges}
use Rattle.capture_monitor.proofs.reading.edges_of.Given as goal

-- the edges so far come before what is left
abbrev pub invariant-edges : goal.invariant-edges
invariant-edges l = record {
  file : file_of l.text ≡ with_edges l.edges.items (file_left l.lines);
  room : l.lines.number + length l.lines.rest.now ≤ length l.text + 1;
}

abbrev pub decreases-edges : goal.decreases-edges
decreases-edges l = length l.lines.rest.now
