use Rattle.std.proofs.Common.{length}
use Rattle.device_features.proofs.ways.+next_nibble.Given as goal

-- the nibbles that are left
abbrev pub decreases-next_nibble : goal.decreases-next_nibble
decreases-next_nibble l = length l.own.now
