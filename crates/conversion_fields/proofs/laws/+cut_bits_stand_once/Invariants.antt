use Rattle.std.proofs.Common.{length}
use Rattle.conversion_fields.proofs.laws.+cut_bits_stand_once.Given as goal

abbrev pub decreases-cut_bits_stand_once : goal.decreases-cut_bits_stand_once
decreases-cut_bits_stand_once l = length l.rows.now
