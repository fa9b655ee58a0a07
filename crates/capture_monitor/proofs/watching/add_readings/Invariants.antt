use Rattle.std.proofs.Common.{◌≡◌, ◌+◌, ◌≤◌, length, Ok}
use Rattle.capture_monitor.specs.EdgeFile.{EdgeFile, file_of}
use Rattle.capture_monitor.proofs.Files.{Watched}
use Rattle.capture_monitor.proofs.watching.add_readings.Given as goal

-- what has ended before the next edge is added
abbrev pub invariant-edges : goal.invariant-edges
invariant-edges g l = record {
  watched : (f : EdgeFile) → file_of l.text ≡ Ok f → Watched f l.lines l.monitor l.fn.out l.out;
  room : l.lines.number + length l.lines.rest.now ≤ length l.text + 1;
}

abbrev pub decreases-edges : goal.decreases-edges
decreases-edges g l = length l.lines.rest.now
