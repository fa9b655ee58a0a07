use Rattle.std.proofs.Common.{◌≡◌, ◌+◌, ◌≤◌, length, List}
use Rattle.line_wave.specs.declared.Edge.{Edge}
use Rattle.capture_monitor.specs.EdgeFile.{file_of, file_left, with_edges}
use Rattle.capture_monitor.proofs.watching.check_file.Given as goal

-- the edges so far come before what is left
abbrev pub invariant-edges : goal.invariant-edges
invariant-edges l = record {
  file : (done : List Edge) × (file_of l.text ≡ with_edges done (file_left l.lines));
  room : l.lines.number + length l.lines.rest.now ≤ length l.text + 1;
}

abbrev pub decreases-edges : goal.decreases-edges
decreases-edges l = length l.lines.rest.now
