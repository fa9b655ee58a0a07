use Rattle.std.proofs.Common.{◌≡◌, length}
use Rattle.std.specs.Option.{option_copied}
use Rattle.text_core.specs.Words.{words_after}
use Rattle.expect_judge.specs.Judged.{lacks_words}
use Rattle.expect_judge.proofs.judge.lacks_words.Given as goal

-- no word before is among the others
abbrev pub invariant-words : goal.invariant-words
invariant-words l = lacks_words (words_after (option_copied l.text)) (words_after (option_copied l.other)) ≡ lacks_words (words_after (option_copied l.rest)) (words_after (option_copied l.other))

abbrev pub decreases-words : goal.decreases-words
decreases-words l = length (words_after (option_copied l.rest))
