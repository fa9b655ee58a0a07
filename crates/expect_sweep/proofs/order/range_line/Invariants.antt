use Rattle.std.proofs.Common.{◌≡◌, ◌+◌, ◌≤◌, length}
use Rattle.text_core.specs.Lines.{lines_of}
use Rattle.expect_sweep.specs.Order.{range_line, range_line_from}
use Rattle.expect_sweep.proofs.order.range_line.Given as goal

-- none of the lines before has one
abbrev pub invariant-lines : goal.invariant-lines
invariant-lines l = record {
  same : range_line_from l.number (lines_of l.rest) ≡ range_line l.script;
  room : l.number + length l.rest ≤ length l.script + 1;
}

abbrev pub decreases-lines : goal.decreases-lines
decreases-lines l = length l.rest
