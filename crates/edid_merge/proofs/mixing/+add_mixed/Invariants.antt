use Rattle.std.proofs.Common.{length}
use Rattle.edid_merge.proofs.mixing.+add_mixed.Given as goal

abbrev pub decreases-add_mixed : goal.decreases-add_mixed
decreases-add_mixed l = length l.ways.now
