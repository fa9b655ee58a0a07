use Rattle.std.proofs.Common.{◌≡◌, ◌+◌, ◌≤◌, ◌||◌, ℕ, length, nat_eq}
use Rattle.std.specs.HashSet.{contains}
use Rattle.text_core.specs.Lines.{lines_of}
use Rattle.expect_judge.specs.Named.{is_named, name_lines}
use Rattle.expect_judge.proofs.named.NamedLines.new.Given as goal

-- each is a line before, or else one of those that are left
abbrev pub invariant-lines : goal.invariant-lines
invariant-lines l = record {
  same : (other : ℕ) → (contains nat_eq l.lines other || name_lines l.number (lines_of l.rest) other) ≡ is_named l.script other;
  room : l.number + length l.rest ≤ length l.script + 1;
}

abbrev pub decreases-lines : goal.decreases-lines
decreases-lines l = length l.rest
