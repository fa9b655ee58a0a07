use Rattle.std.proofs.Common.{◌≡◌, ◌+◌, ◌≤◌, length}
use Rattle.text_core.specs.Lines.{lines_of}
use Rattle.capture_monitor.specs.EdgeFile.{end_read}
use Rattle.capture_monitor.proofs.edge_file.EdgeLines.end.Given as goal

-- skipped lines leave what is read
abbrev pub invariant-loop-line : goal.invariant-loop-line
invariant-loop-line l = record {
  same : end_read (lines_of l.rest) l.number l.t ≡ end_read (lines_of l.self.rest.now) l.self.number l.t;
  room : l.number + length l.rest ≤ l.self.number + length l.self.rest.now;
}

abbrev pub decreases-loop-line : goal.decreases-loop-line
decreases-loop-line l = length l.rest
