use Rattle.std.proofs.Common.{◌≡◌, length}
use Rattle.expect_judge.specs.Index.{are_in_order}
use Rattle.expect_judge.proofs.seen.are_in_order.Given as goal

-- each of the rounds before did
abbrev pub invariant-rounds : goal.invariant-rounds
invariant-rounds l = are_in_order l.rounds ≡ are_in_order l.rest

abbrev pub decreases-rounds : goal.decreases-rounds
decreases-rounds l = length l.rest
