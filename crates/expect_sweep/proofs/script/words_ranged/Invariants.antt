use Rattle.std.proofs.Common.{◌≡◌, ◌+◌, ◌≤◌, length}
use Rattle.std.specs.Option.{option_copied}
use Rattle.text_core.specs.Words.{words_after, words_of}
use Rattle.expect_sweep.specs.Script.{words_ranged}
use Rattle.expect_sweep.specs.declared.places.WordRole.TheVariants.{Begin}
use Rattle.expect_sweep.proofs.script.words_ranged.Given as goal

-- the words before, and then those that are left
abbrev pub invariant-words : goal.invariant-words
invariant-words l = record {
  same : words_ranged l.number l.index l.place l.seen (words_after (option_copied l.rest)) ≡ words_ranged l.number 0 Begin l.fn.seen (words_of l.line);
  room : l.index + length (words_after (option_copied l.rest)) ≤ length l.line + 1;
}

abbrev pub decreases-words : goal.decreases-words
decreases-words l = length (words_after (option_copied l.rest))
