use Rattle.std.proofs.Common.{length}
use Rattle.expect_text.proofs.names.+after_front.Given as goal

abbrev pub decreases-after_front : goal.decreases-after_front
decreases-after_front l = length l.front.now
