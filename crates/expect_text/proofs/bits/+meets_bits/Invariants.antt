use Rattle.std.proofs.Common.{length}
use Rattle.expect_text.proofs.bits.+meets_bits.Given as goal

abbrev pub decreases-meets_bits : goal.decreases-meets_bits
decreases-meets_bits l = length l.word.now
