use Rattle.std.proofs.Common.{length}
use Rattle.expect_text.proofs.bits.+are_stars.Given as goal

abbrev pub decreases-are_stars : goal.decreases-are_stars
decreases-are_stars l = length l.word.now
