use Rattle.std.proofs.Common.{◌≡◌, ◌+◌, ◌≤◌, length}
use Rattle.std.specs.Option.{option_copied}
use Rattle.text_core.specs.Words.{words_after, words_of}
use Rattle.expect_text.specs.StateTest.{strange_from}
use Rattle.expect_text.proofs.state_words.strange_from.Given as goal

-- each word before is one of a state line
abbrev pub invariant-words : goal.invariant-words
invariant-words l = record {
  same : strange_from l.first (words_of l.text) ≡ strange_from l.number (words_after (option_copied l.rest));
  room : l.number + length (words_after (option_copied l.rest)) ≤ length l.text + 6;
}

abbrev pub decreases-words : goal.decreases-words
decreases-words l = length (words_after (option_copied l.rest))
