use Rattle.std.proofs.Common.{length}
use Rattle.expect_text.proofs.names.+meets_by.Given as goal

abbrev pub decreases-meets_by : goal.decreases-meets_by
decreases-meets_by l = length l.bytes.now
