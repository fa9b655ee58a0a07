use Rattle.std.proofs.Common.{length}
use Rattle.record_core.proofs.line.+add_stands.Given as goal

abbrev pub decreases-add_stands : goal.decreases-add_stands
decreases-add_stands g l = length l.stands.now
