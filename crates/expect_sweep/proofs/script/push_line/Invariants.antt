use Rattle.std.proofs.Common.{◌≡◌, ◌++◌, length}
use Rattle.std.specs.Option.{option_copied}
use Rattle.text_core.specs.Words.{words_after}
use Rattle.expect_sweep.specs.Script.{line_at, words_at}
use Rattle.expect_sweep.proofs.script.push_line.Given as goal

-- the words that are appended, and those that are left
abbrev pub invariant-words : goal.invariant-words
invariant-words l = l.text.items ++ words_at l.at l.place (words_after (option_copied l.rest)) ≡ l.fn.text.items ++ line_at l.at l.line

abbrev pub decreases-words : goal.decreases-words
decreases-words l = length (words_after (option_copied l.rest))
