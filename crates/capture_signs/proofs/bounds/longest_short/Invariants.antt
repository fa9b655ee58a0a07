use Rattle.std.proofs.Common.{◌≡◌, ◌<◌, max, length}
use Rattle.piece_audit.specs.Wide.{lows_from}
use Rattle.capture_signs.specs.Signs.{longest_short, short_below}
use Rattle.capture_signs.proofs.bounds.longest_short.Given as goal

abbrev pub invariant-lows : goal.invariant-lows
invariant-lows l = (max l.longest (longest_short (lows_from l.left)) ≡ longest_short (lows_from l.edges)) × (l.longest < short_below)

abbrev pub decreases-lows : goal.decreases-lows
decreases-lows l = length l.left
