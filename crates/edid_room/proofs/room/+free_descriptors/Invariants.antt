use Rattle.std.proofs.Common.{length}
use Rattle.edid_room.proofs.room.+free_descriptors.Given as goal

abbrev pub decreases-free_descriptors : goal.decreases-free_descriptors
decreases-free_descriptors l = length l.descriptors.now
