use Rattle.std.proofs.Common.{◌≡◌, ◌+◌, ◌≤◌, ◌||◌, ℕ, length, nat_eq}
use Rattle.std.specs.HashSet.{contains}
use Rattle.text_core.specs.Lines.{lines_of}
use Rattle.expect_judge.specs.Judged.{is_refusal_expected, lines_expect}
use Rattle.expect_judge.proofs.expected.Expected.new.Given as goal

-- each is expected by a line before, or else by one of those that are left
abbrev pub invariant-lines : goal.invariant-lines
invariant-lines l = record {
  same : (number : ℕ) → (contains nat_eq l.lines number || lines_expect l.labels.script.now l.number number (lines_of l.rest)) ≡ is_refusal_expected l.labels.script.now number;
  room : l.number + length l.rest ≤ length l.labels.script.now + 1;
}

abbrev pub decreases-lines : goal.decreases-lines
decreases-lines l = length l.rest
