use Rattle.std.proofs.Common.{length}
use Rattle.edid_core.proofs.passing.+append_passed.Given as goal

abbrev pub decreases-append_passed : goal.decreases-append_passed
decreases-append_passed l = length l.extensions.now
