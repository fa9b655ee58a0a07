use Rattle.std.proofs.Common.{◌≡◌, ◌+◌, ◌≤◌, ◌++◌, length}
use Rattle.text_core.specs.Lines.{lines_of}
use Rattle.capture_pin.specs.Lost.{lost_in}
use Rattle.capture_pin.proofs.lost.lost_lines.Given as goal

-- the lines so far are there
abbrev pub invariant-lines : goal.invariant-lines
invariant-lines l = record {
  so_far : lost_in 1 (lines_of l.text) ≡ l.lost.items ++ lost_in l.number (lines_of l.rest);
  room : l.number + length l.rest ≤ length l.text + 1;
}

abbrev pub decreases-lines : goal.decreases-lines
decreases-lines l = length l.rest
