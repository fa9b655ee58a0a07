use Rattle.std.proofs.Common.{length}
use Rattle.edid_merge.proofs.extension.+cta_flags.Given as goal

abbrev pub decreases-cta_flags : goal.decreases-cta_flags
decreases-cta_flags l = length l.extensions.now
