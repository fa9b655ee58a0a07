use Rattle.std.proofs.Common.{◌+◌, length}
use Rattle.expect_text.proofs.pattern.+fits.Given as goal

abbrev pub decreases-fits : goal.decreases-fits
decreases-fits l = length l.pattern.now + length l.text.now
