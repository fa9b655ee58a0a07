use Rattle.std.proofs.Common.{length}
use Rattle.edid_merge.proofs.labels.+label_count.Given as goal

abbrev pub decreases-label_count : goal.decreases-label_count
decreases-label_count l = length l.descriptors.now
