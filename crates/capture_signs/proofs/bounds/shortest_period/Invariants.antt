use Rattle.std.proofs.Common.{◌≡◌, ◌≤◌, min, length}
use Rattle.piece_audit.specs.Wide.{lows_from}
use Rattle.capture_signs.specs.Signs.{shortest_period}
use Rattle.capture_signs.specs.Sums.{most_sum}
use Rattle.capture_signs.proofs.bounds.shortest_period.Given as goal

abbrev pub invariant-lows : goal.invariant-lows
invariant-lows l = (min l.shortest (shortest_period (lows_from l.left)) ≡ shortest_period (lows_from l.edges)) × (l.shortest ≤ most_sum)

abbrev pub decreases-lows : goal.decreases-lows
decreases-lows l = length l.left
