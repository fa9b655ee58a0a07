use Rattle.std.proofs.Common.{length}
use Rattle.message_lay.proofs.bits.+push_blocks.Given as goal

abbrev pub decreases-push_blocks : goal.decreases-push_blocks
decreases-push_blocks l = length l.bytes.now
