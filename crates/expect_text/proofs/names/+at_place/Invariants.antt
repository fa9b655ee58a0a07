use Rattle.std.proofs.Common.{length}
use Rattle.expect_text.proofs.names.+at_place.Given as goal

abbrev pub decreases-at_place : goal.decreases-at_place
decreases-at_place l = length l.pattern.now
