use Rattle.std.proofs.Common.{length}
use Rattle.expect_text.proofs.names.+fits_by.Given as goal

abbrev pub decreases-fits_by : goal.decreases-fits_by
decreases-fits_by l = length l.bytes.now
