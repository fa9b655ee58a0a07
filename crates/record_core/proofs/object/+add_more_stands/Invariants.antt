use Rattle.std.proofs.Common.{length}
use Rattle.record_core.proofs.object.+add_more_stands.Given as goal

abbrev pub decreases-add_more_stands : goal.decreases-add_more_stands
decreases-add_more_stands g l = length l.stands.now
