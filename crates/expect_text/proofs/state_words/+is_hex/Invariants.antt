use Rattle.std.proofs.Common.{length}
use Rattle.expect_text.proofs.state_words.+is_hex.Given as goal

abbrev pub decreases-is_hex : goal.decreases-is_hex
decreases-is_hex l = length l.text.now
