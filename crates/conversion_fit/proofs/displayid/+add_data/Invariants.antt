use Rattle.std.proofs.Common.{length}
use Rattle.conversion_fit.proofs.displayid.+add_data.Given as goal

abbrev pub decreases-add_data : goal.decreases-add_data
decreases-add_data l = length l.count.now
