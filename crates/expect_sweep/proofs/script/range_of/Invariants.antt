use Rattle.std.proofs.Common.{◌≡◌, ◌+◌, ◌≤◌, length}
use Rattle.text_core.specs.Lines.{lines_of}
use Rattle.expect_sweep.specs.Script.{lines_ranged, range_of}
use Rattle.expect_sweep.proofs.script.range_of.Given as goal

-- the lines before, and then those that are left
abbrev pub invariant-lines : goal.invariant-lines
invariant-lines l = record {
  same : lines_ranged l.number l.seen (lines_of l.rest) ≡ range_of l.script;
  room : l.number + length l.rest ≤ length l.script + 1;
}

abbrev pub decreases-lines : goal.decreases-lines
decreases-lines l = length l.rest
