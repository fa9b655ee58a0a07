use Rattle.std.proofs.Common.{length}
use Rattle.rules_native.proofs.natives.+are_mixed.Given as goal

abbrev pub decreases-are_mixed : goal.decreases-are_mixed
decreases-are_mixed l = length l.pictures.now
