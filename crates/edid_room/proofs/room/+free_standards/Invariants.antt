use Rattle.std.proofs.Common.{length}
use Rattle.edid_room.proofs.room.+free_standards.Given as goal

abbrev pub decreases-free_standards : goal.decreases-free_standards
decreases-free_standards l = length l.standards.now
