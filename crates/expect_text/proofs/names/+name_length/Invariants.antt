use Rattle.std.proofs.Common.{length}
use Rattle.expect_text.proofs.names.+name_length.Given as goal

abbrev pub decreases-name_length : goal.decreases-name_length
decreases-name_length l = length l.text.now
