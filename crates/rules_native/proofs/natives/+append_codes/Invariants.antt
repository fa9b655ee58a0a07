use Rattle.std.proofs.Common.{length}
use Rattle.rules_native.proofs.natives.+append_codes.Given as goal

abbrev pub decreases-append_codes : goal.decreases-append_codes
decreases-append_codes l = length l.svds.now
