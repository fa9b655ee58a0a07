use Rattle.std.proofs.Common.{length}
use Rattle.expect_text.proofs.names.+meetable_by.Given as goal

abbrev pub decreases-meetable_by : goal.decreases-meetable_by
decreases-meetable_by l = length l.bytes.now
