use Rattle.std.proofs.Common.{length}
use Rattle.edid_core.proofs.passing.+append_extensions.Given as goal

abbrev pub decreases-append_extensions : goal.decreases-append_extensions
decreases-append_extensions l = length l.extensions.now
