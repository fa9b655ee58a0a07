use Rattle.std.proofs.Common.{length}
use Rattle.edid_room.proofs.records.+add_exts.Given as goal

abbrev pub decreases-add_exts : goal.decreases-add_exts
decreases-add_exts g l = length l.extensions.now
