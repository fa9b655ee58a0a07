use Rattle.std.proofs.Common.{◌≡◌, ◌++◌, length, map}
use Rattle.expect_judge.specs.Told.{kept_as, round_as}
use Rattle.expect_judge.proofs.kept.rounds_kept.Given as goal

-- those so far, and those that are left
abbrev pub invariant-rounds : goal.invariant-rounds
invariant-rounds l = map round_as l.rounds.items ++ map kept_as l.rest ≡ map kept_as l.kept

abbrev pub decreases-rounds : goal.decreases-rounds
decreases-rounds l = length l.rest
