use Rattle.std.proofs.Common.{length}
use Rattle.expect_text.proofs.bits.+stands.Given as goal

abbrev pub decreases-stands : goal.decreases-stands
decreases-stands l = length l.word.now
