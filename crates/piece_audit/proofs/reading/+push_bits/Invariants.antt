use Rattle.std.proofs.Common.{length}
use Rattle.piece_audit.proofs.reading.+push_bits.Given as goal

abbrev pub decreases-push_bits : goal.decreases-push_bits
decreases-push_bits l = length l.slots.now
