use Rattle.std.proofs.Common.{◌+◌, length}
use Rattle.expect_text.proofs.state_words.+is_text.Given as goal

abbrev pub decreases-is_text : goal.decreases-is_text
decreases-is_text l = length l.parts.now + length l.text.now
