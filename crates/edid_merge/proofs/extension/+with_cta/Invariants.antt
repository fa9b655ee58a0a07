use Rattle.std.proofs.Common.{length}
use Rattle.edid_merge.proofs.extension.+with_cta.Given as goal

abbrev pub decreases-with_cta : goal.decreases-with_cta
decreases-with_cta l = length l.extensions.now
