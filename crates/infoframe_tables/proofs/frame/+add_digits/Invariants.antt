use Rattle.std.proofs.Common.{length}
use Rattle.infoframe_tables.proofs.frame.+add_digits.Given as goal

abbrev pub decreases-add_digits : goal.decreases-add_digits
decreases-add_digits l = length l.text.now
