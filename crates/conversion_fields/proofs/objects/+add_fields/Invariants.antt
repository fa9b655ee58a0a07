use Rattle.std.proofs.Common.{length}
use Rattle.conversion_fields.proofs.objects.+add_fields.Given as goal

abbrev pub decreases-add_fields : goal.decreases-add_fields
decreases-add_fields g l = length l.reports.now
