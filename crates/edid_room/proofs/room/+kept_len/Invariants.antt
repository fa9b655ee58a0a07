use Rattle.std.proofs.Common.{length}
use Rattle.edid_room.proofs.room.+kept_len.Given as goal

abbrev pub decreases-kept_len : goal.decreases-kept_len
decreases-kept_len l = length l.bytes.now
