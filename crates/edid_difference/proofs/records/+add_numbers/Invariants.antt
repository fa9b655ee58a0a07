use Rattle.std.proofs.Common.{length}
use Rattle.edid_difference.proofs.records.+add_numbers.Given as goal

abbrev pub decreases-add_numbers : goal.decreases-add_numbers
decreases-add_numbers g l = length l.first.now
