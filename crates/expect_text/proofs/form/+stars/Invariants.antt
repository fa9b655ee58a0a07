use Rattle.std.proofs.Common.{length}
use Rattle.expect_text.proofs.form.+stars.Given as goal

abbrev pub decreases-stars : goal.decreases-stars
decreases-stars l = length l.text.now
