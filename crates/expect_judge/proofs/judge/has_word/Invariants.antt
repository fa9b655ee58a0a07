use Rattle.std.proofs.Common.{◌≡◌, length}
use Rattle.std.specs.Option.{option_copied}
use Rattle.text_core.specs.Words.{words_after}
use Rattle.expect_judge.specs.Judged.{has_word}
use Rattle.expect_judge.proofs.judge.has_word.Given as goal

-- no word before is this
abbrev pub invariant-words : goal.invariant-words
invariant-words l = has_word l.word (words_after (option_copied l.text)) ≡ has_word l.word (words_after (option_copied l.rest))

abbrev pub decreases-words : goal.decreases-words
decreases-words l = length (words_after (option_copied l.rest))
