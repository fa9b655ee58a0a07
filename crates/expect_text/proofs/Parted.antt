-- Texts and their words.
use Rattle.std.proofs.Common.{◌≡◌, ℕ, ◌+◌, ◌≤◌, ◌==◌, false, List, length, sym, arith}
use Rattle.std.proofs.lemmas.List.Splits.{join_with_byte-slice_split, length-slice_split}
use Rattle.std.proofs.lemmas.List.Sums.{count_by-le-length}
use Rattle.text_core.specs.Words.{words_of, text_of}
use Rattle.expect_text.specs.Line.{is_expectation, plain_words}

pub text_again : (text : List ℕ) → text_of (words_of text) ≡ text
text_again text = join_with_byte-slice_split 32 text

pub plain_rest : (rest : List ℕ) → is_expectation (words_of rest) ≡ false → rest ≡ plain_words (words_of rest)
plain_rest rest other = rw other (sym (text_again rest))

-- a text has at most one word more than bytes
pub few_words : (text : List ℕ) → length (words_of text) ≤ length text + 1
few_words text = omega (arith, length-slice_split (λ b. b == 32) text, count_by-le-length (λ b. b == 32) text)
