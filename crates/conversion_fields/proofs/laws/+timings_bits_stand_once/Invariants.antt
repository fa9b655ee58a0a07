use Rattle.std.proofs.Common.{length}
use Rattle.conversion_fields.proofs.laws.+timings_bits_stand_once.Given as goal

abbrev pub decreases-timings_bits_stand_once : goal.decreases-timings_bits_stand_once
decreases-timings_bits_stand_once l = length l.timings.now
