use Rattle.std.proofs.Common.{length}
use Rattle.edid_merge.proofs.speakers.+fits.Given as goal

abbrev pub decreases-fits : goal.decreases-fits
decreases-fits l = length l.extensions.now
