use Rattle.std.proofs.Common.{◌≡◌, ◌+◌, ◌≤◌, ◌||◌, ℕ, length, nat_eq}
use Rattle.std.specs.HashSet.{contains}
use Rattle.text_core.specs.Lines.{lines_of}
use Rattle.expect_text.specs.Faults.{events_from, is_event_at}
use Rattle.expect_text.proofs.labels.event_lines.Given as goal

-- each is a line before, or else one of those that are left
abbrev pub invariant-lines : goal.invariant-lines
invariant-lines l = record {
  same : (other : ℕ) → (contains nat_eq l.lines other || events_from l.number (lines_of l.rest) other) ≡ is_event_at l.script other;
  room : l.number + length l.rest ≤ length l.script + 1;
}

abbrev pub decreases-lines : goal.decreases-lines
decreases-lines l = length l.rest
