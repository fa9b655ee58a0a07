use Rattle.std.proofs.Common.{length}
use Rattle.edid_eld.proofs.display.+cta_version.Given as goal

abbrev pub decreases-cta_version : goal.decreases-cta_version
decreases-cta_version l = length l.extensions.now
