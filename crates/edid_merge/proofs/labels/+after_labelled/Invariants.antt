use Rattle.std.proofs.Common.{length}
use Rattle.edid_merge.proofs.labels.+after_labelled.Given as goal

abbrev pub decreases-after_labelled : goal.decreases-after_labelled
decreases-after_labelled l = length l.descriptors.now
