use Rattle.std.proofs.Common.{length}
use Rattle.record_core.proofs.object.+add_each_field.Given as goal

abbrev pub decreases-add_each_field : goal.decreases-add_each_field
decreases-add_each_field g l = length l.cells.now
