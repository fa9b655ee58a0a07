use Rattle.std.proofs.Common.{length}
use Rattle.edid_merge.proofs.labels.+first_labelled.Given as goal

abbrev pub decreases-first_labelled : goal.decreases-first_labelled
decreases-first_labelled l = length l.descriptors.now
