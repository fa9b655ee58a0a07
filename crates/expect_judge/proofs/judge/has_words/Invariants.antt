use Rattle.std.proofs.Common.{◌≡◌, length}
use Rattle.std.specs.Option.{option_copied}
use Rattle.text_core.specs.Words.{words_after, words_of}
use Rattle.expect_judge.specs.Judged.{has_words}
use Rattle.expect_judge.proofs.judge.has_words.Given as goal

-- each word before is among the others
abbrev pub invariant-words : goal.invariant-words
invariant-words l = has_words (words_of l.text) (words_after (option_copied l.other)) ≡ has_words (words_after (option_copied l.rest)) (words_after (option_copied l.other))

abbrev pub decreases-words : goal.decreases-words
decreases-words l = length (words_after (option_copied l.rest))
