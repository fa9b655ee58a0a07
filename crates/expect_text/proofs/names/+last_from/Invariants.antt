use Rattle.std.proofs.Common.{length}
use Rattle.expect_text.proofs.names.+last_from.Given as goal

abbrev pub decreases-last_from : goal.decreases-last_from
decreases-last_from l = length l.text.now
