use Rattle.std.proofs.Common.{length}
use Rattle.room_named.proofs.notes.+put_bits.Given as goal

abbrev pub decreases-put_bits : goal.decreases-put_bits
decreases-put_bits l = length l.bits.now
