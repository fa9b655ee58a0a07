use Rattle.std.proofs.Common.{◌≡◌, ◌-◌, ◌≤◌, drop}
use Rattle.std.specs.Option.{option_copied}
use Rattle.text_core.specs.Words.{words_of, words_after}
use Rattle.edid_texts.proofs.Passing.{PassesTo}
use Rattle.edid_texts.proofs.fields.unfit_word.Given as goal

abbrev pub invariant-words : goal.invariant-words
invariant-words l = record {
  least : 1 ≤ l.index;
  passed : PassesTo l.word l.front l.index;
  left : words_after (option_copied l.rest) ≡ drop l.index (words_of l.front);
}

abbrev pub decreases-words : goal.decreases-words
decreases-words l = l.count - l.index
