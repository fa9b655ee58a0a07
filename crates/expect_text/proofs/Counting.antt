-- Counts that a number allows.
use Rattle.std.proofs.Common.{◌≡◌, ℕ, ◌+◌, ◌==◌, nat_le, ◌&&◌, not, arith}
use Rattle.std.proofs.lemmas.Grind.{common_steps}
use Rattle.expect_text.specs.Laws.{CountsAreOfBounds}

most_at : (number count : ℕ) → nat_le count number ≡ not (nat_le (number + 1) count)
most_at number count = grind (arith, common_steps)

exactly_at : (number count : ℕ) → (count == number) ≡ (nat_le count number && nat_le number count)
exactly_at number count = grind (arith, common_steps)

pub counts_are_of_bounds : CountsAreOfBounds
counts_are_of_bounds = record { most = most_at; exactly = exactly_at }
