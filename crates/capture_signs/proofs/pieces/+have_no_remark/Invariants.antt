use Rattle.std.proofs.Common.{length}
use Rattle.capture_signs.proofs.pieces.+have_no_remark.Given as goal

abbrev pub decreases-have_no_remark : goal.decreases-have_no_remark
decreases-have_no_remark l = length l.kinds.now
