use Rattle.std.proofs.Common.{length}
use Rattle.expect_text.proofs.state_words.+is_of_any.Given as goal

abbrev pub decreases-is_of_any : goal.decreases-is_of_any
decreases-is_of_any l = length l.fields.now
