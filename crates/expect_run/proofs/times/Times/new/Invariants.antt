use Rattle.std.proofs.Common.{◌≡◌, ◌+◌, ◌≤◌, ℕ, length, nat_eq}
use Rattle.std.specs.HashMap.{get}
use Rattle.text_core.specs.Lines.{lines_of}
use Rattle.expect_text.specs.Labels.{or_line}
use Rattle.expect_run.specs.Kept.{time_at, times_from}
use Rattle.expect_run.proofs.times.Times.new.Given as goal

-- each time is that of one of the lines that are left, or else of one before
abbrev pub invariant-lines : goal.invariant-lines
invariant-lines l = record {
  same : (other : ℕ) → or_line (times_from l.number (lines_of l.rest) other) (get nat_eq l.times other) ≡ time_at l.script other;
  room : l.number + length l.rest ≤ length l.script + 1;
}

abbrev pub decreases-lines : goal.decreases-lines
decreases-lines l = length l.rest
