use Rattle.std.proofs.Common.{◌≡◌, ◌+◌, ◌≤◌, length}
use Rattle.std.specs.Option.{option_copied}
use Rattle.text_core.specs.Words.{words_after, words_of}
use Rattle.expect_text.specs.Form.{empty_from}
use Rattle.expect_text.proofs.form.first_empty.Given as goal

-- no word before is empty
abbrev pub invariant-words : goal.invariant-words
invariant-words l = record {
  same : empty_from 4 (words_of l.text) ≡ empty_from l.number (words_after (option_copied l.rest));
  room : l.number + length (words_after (option_copied l.rest)) ≤ length l.text + 5;
}

abbrev pub decreases-words : goal.decreases-words
decreases-words l = length (words_after (option_copied l.rest))
