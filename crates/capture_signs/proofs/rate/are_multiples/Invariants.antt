use Rattle.std.proofs.Common.{◌≡◌, length}
use Rattle.capture_signs.specs.Rates.{are_multiples}
use Rattle.capture_signs.proofs.rate.are_multiples.Given as goal

abbrev pub invariant-edges : goal.invariant-edges
invariant-edges l = are_multiples l.g l.left ≡ are_multiples l.g l.edges

abbrev pub decreases-edges : goal.decreases-edges
decreases-edges l = length l.left
