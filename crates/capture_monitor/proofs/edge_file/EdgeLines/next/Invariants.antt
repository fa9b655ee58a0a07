use Rattle.std.proofs.Common.{◌≡◌, ◌+◌, ◌≤◌, length}
use Rattle.capture_monitor.specs.EdgeFile.{file_left}
use Rattle.capture_monitor.proofs.edge_file.EdgeLines.next.Given as goal

-- skipped lines leave what is read
abbrev pub invariant-loop-line : goal.invariant-loop-line
invariant-loop-line l = record {
  file : file_left l.self ≡ file_left l.fn.self;
  level : l.self.is_low ≡ l.fn.self.is_low;
  from : l.self.from ≡ l.fn.self.from;
  room : l.self.number + length l.self.rest.now ≤ l.fn.self.number + length l.fn.self.rest.now;
  shorter : length l.self.rest.now ≤ length l.fn.self.rest.now;
}

abbrev pub decreases-loop-line : goal.decreases-loop-line
decreases-loop-line l = length l.self.rest.now
