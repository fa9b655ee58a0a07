use Rattle.std.proofs.Common.{length}
use Rattle.conversion_fields.proofs.objects.+add_bytes.Given as goal

abbrev pub decreases-add_bytes : goal.decreases-add_bytes
decreases-add_bytes g l = length l.bytes.now
