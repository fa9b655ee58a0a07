use Rattle.std.proofs.Common.{◌≡◌, ◌+◌, ◌≤◌, length}
use Rattle.text_core.specs.Lines.{lines_of}
use Rattle.expect_sweep.specs.Order.{crossed_from, range_line_as}
use Rattle.expect_sweep.proofs.order.crossed.Given as goal

-- none of the lines before is out of order
abbrev pub invariant-lines : goal.invariant-lines
invariant-lines l = record {
  same : crossed_from l.series (range_line_as l.ranged) l.number (lines_of l.rest) ≡ crossed_from l.series (range_line_as l.ranged) 1 (lines_of l.script);
  room : l.number + length l.rest ≤ length l.script + 1;
}

abbrev pub decreases-lines : goal.decreases-lines
decreases-lines l = length l.rest
