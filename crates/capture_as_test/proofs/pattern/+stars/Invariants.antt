use Rattle.std.proofs.Common.{length}
use Rattle.capture_as_test.proofs.pattern.+stars.Given as goal

abbrev pub decreases-stars : goal.decreases-stars
decreases-stars l = length l.text.now
