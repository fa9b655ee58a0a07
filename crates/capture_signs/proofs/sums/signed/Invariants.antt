use Rattle.std.proofs.Common.{◌≡◌, length}
use Rattle.piece_audit.specs.Wide.{lows_from}
use Rattle.capture_signs.specs.Signs.{amount}
use Rattle.capture_signs.proofs.Summing.{on}
use Rattle.capture_signs.proofs.sums.signed.Given as goal

-- with those that are left
abbrev pub invariant-lows : goal.invariant-lows
invariant-lows l = on (amount l.sign l.end) l.sum (lows_from l.left) ≡ on (amount l.sign l.end) 0 (lows_from l.edges)

abbrev pub decreases-lows : goal.decreases-lows
decreases-lows l = length l.left
