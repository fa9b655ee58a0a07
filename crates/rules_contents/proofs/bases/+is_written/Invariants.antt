use Rattle.std.proofs.Common.{length}
use Rattle.rules_contents.proofs.bases.+is_written.Given as goal

abbrev pub decreases-is_written : goal.decreases-is_written
decreases-is_written l = length l.bytes.now
