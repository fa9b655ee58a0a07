use Rattle.std.proofs.Common.{length}
use Rattle.line_frames.proofs.blocks.+push_bytes.Given as goal

abbrev pub decreases-push_bytes : goal.decreases-push_bytes
decreases-push_bytes l = length l.bits.now
