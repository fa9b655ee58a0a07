-- How many words a text has.
use Rattle.std.proofs.Common.{ℕ, ◌+◌, ◌≤◌, ◌==◌, List, length, arith}
use Rattle.std.proofs.lemmas.List.Splits.{length-slice_split}
use Rattle.std.proofs.lemmas.List.Sums.{count_by-le-length}
use Rattle.text_core.specs.Words.{words_of}

-- at most one more than bytes
pub few_words : (text : List ℕ) → length (words_of text) ≤ length text + 1
few_words text = omega (arith, length-slice_split (λ b. b == 32) text, count_by-le-length (λ b. b == 32) text)
