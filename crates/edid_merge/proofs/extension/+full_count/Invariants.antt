use Rattle.std.proofs.Common.{length}
use Rattle.edid_merge.proofs.extension.+full_count.Given as goal

abbrev pub decreases-full_count : goal.decreases-full_count
decreases-full_count l = length l.extensions.now
