use Rattle.std.proofs.Common.{◌≡◌, ◌-◌, ◌++◌, length, map, option_copied}
use Rattle.text_core.specs.Words.{words_of, words_after}
use Rattle.text_forms.proofs.read.split_words.Given as goal

-- the words so far, and those that are left
abbrev pub invariant-words : goal.invariant-words
invariant-words l = words_of l.line ≡ map (λ w. w.now) l.words.items ++ words_after (option_copied l.rest)

abbrev pub decreases-words : goal.decreases-words
decreases-words l = 16 - length l.words.items
