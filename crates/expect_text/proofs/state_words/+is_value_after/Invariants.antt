use Rattle.std.proofs.Common.{length}
use Rattle.expect_text.proofs.state_words.+is_value_after.Given as goal

abbrev pub decreases-is_value_after : goal.decreases-is_value_after
decreases-is_value_after l = length l.front.now
