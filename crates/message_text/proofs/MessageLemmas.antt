-- Operands that have words are as many as their row has.
use Rattle.std.proofs.Common.{◌≡◌, ℕ, ◌≤◌, ◌+◌, ◌==◌, ◌&&◌, ◌||◌, nat_le, Bool, true, false, cond, List, [], ◌∷◌, length, take, drop, Option, Some, None, is_some, refl, sym, ◌∙◌, arith}
use Rattle.std.proofs.lemmas.Bool.Decides.{nat_tests}
use Rattle.std.specs.List.{list_all}
use Rattle.message_table.specs.Laws.{fits}
use Rattle.message_table.specs.Operands.{size_of}
use Rattle.message_table.specs.Table.{Row, operands_in, operands_of, row_of}
use Rattle.message_table.specs.declared.operand.Operand.{Operand}
use Rattle.message_table.specs.declared.operand.Operand.TheVariants.{Byte, Word, Language, Vendor, Address}
use Rattle.message_table.specs.declared.operand.Operands.{Operands}
use Rattle.message_table.specs.declared.operand.Operands.TheVariants.{Raw, Nothing, One, Optional, Two, Volume, Text, WordAndText}
use Rattle.message_text.proofs.Finding.{and_left, and_right}
use Rattle.message_text.proofs.Spelled.{both_parts, parted_length}
use Rattle.message_text.specs.FrameText.{is_text, is_text_byte, operand_word, operand_words}

size_one : (operand : Operand) (xs t : List ℕ) → operand_word operand xs ≡ Some t → length xs ≡ size_of operand
size_one Byte [] t e = cc
size_one Byte (a ∷ []) t e = refl
size_one Byte (a ∷ b ∷ xs) t e = cc
size_one (Word set) [] t e = cc
size_one (Word set) (a ∷ []) t e = refl
size_one (Word set) (a ∷ b ∷ xs) t e = cc
size_one Language [] t e = cc
size_one Language (a ∷ []) t e = cc
size_one Language (a ∷ b ∷ []) t e = cc
size_one Language (a ∷ b ∷ c ∷ []) t e = refl
size_one Language (a ∷ b ∷ c ∷ d ∷ xs) t e = cc
size_one Vendor [] t e = cc
size_one Vendor (a ∷ []) t e = cc
size_one Vendor (a ∷ b ∷ []) t e = cc
size_one Vendor (a ∷ b ∷ c ∷ []) t e = refl
size_one Vendor (a ∷ b ∷ c ∷ d ∷ xs) t e = cc
size_one Address [] t e = cc
size_one Address (a ∷ []) t e = cc
size_one Address (a ∷ b ∷ []) t e = refl
size_one Address (a ∷ b ∷ c ∷ xs) t e = cc

exact : (n m : ℕ) → m ≡ n → (nat_le n m && nat_le m n) ≡ true
exact n m e = grind (arith, nat_tests)

either : (n m : ℕ) → m ≡ n → ((m == 0) || (m == n)) ≡ true
either n m e = grind (arith, nat_tests)

between : (m : ℕ) → 1 ≤ m → m ≤ 14 → (nat_le 1 m && nat_le m 14) ≡ true
between m low high = grind (arith, nat_tests)

true_le : (n m : ℕ) → nat_le n m ≡ true → n ≤ m
true_le n m h = grind (arith, nat_tests)

text_size : (most : ℕ) (xs : List ℕ) → is_text most xs ≡ true → (1 ≤ length xs) × (length xs ≤ most)
text_size most xs h =
    let sizes = and_left (nat_le 1 (length xs) && nat_le (length xs) most) (list_all is_text_byte xs) h in (
      true_le 1 (length xs) (and_left (nat_le 1 (length xs)) (nat_le (length xs) most) sizes),
      true_le (length xs) most (and_right (nat_le 1 (length xs)) (nat_le (length xs) most) sizes),
    )

tested : (b : Bool) (o : Option (List ℕ)) (t : List ℕ) → cond b o None ≡ Some t → b ≡ true
tested true o t e = refl
tested false o t e = cc

words_fit : (operands : Operands) (xs t : List ℕ) → operand_words operands xs ≡ Some t → fits operands xs ≡ true
words_fit Raw xs t e = cc
words_fit Nothing [] t e = refl
words_fit Nothing (x ∷ xs) t e = cc
words_fit (One a) xs t e = exact (size_of a) (length xs) (size_one a xs t e)
words_fit (Optional a) [] t e = refl
words_fit (Optional a) (x ∷ xs) t e = either (size_of a) (length (x ∷ xs)) (size_one a (x ∷ xs) t e)
words_fit (Two a b) xs t e =
    let k = both_parts (operand_word a (take (size_of a) xs)) (operand_word b (drop (size_of a) xs)) t e in
    let first = size_one a (take (size_of a) xs) k.first k.is_first in
    let second = size_one b (drop (size_of a) xs) k.second k.is_second in
    exact (size_of a + size_of b) (length xs) (sym (parted_length (size_of a) xs) ∙ rw (first, second) refl)
words_fit Volume [] t e = cc
words_fit Volume (x ∷ []) t e = refl
words_fit Volume (x ∷ y ∷ xs) t e = cc
words_fit Text xs t e =
    let k = text_size 14 xs (tested (is_text 14 xs) _ t e) in
    between (length xs) k.0 k.1
words_fit (WordAndText set) [] t e = cc
words_fit (WordAndText set) (d ∷ []) t e = refl
words_fit (WordAndText set) (d ∷ x ∷ xs) t e =
    let k = text_size 13 (x ∷ xs) (tested (is_text 13 (x ∷ xs)) _ t e) in
    between (length (d ∷ x ∷ xs)) (omega arith) (omega arith)

has_row : (r : Option Row) (xs t : List ℕ) → operand_words (operands_in r) xs ≡ Some t → is_some r ≡ true
has_row None xs t e = cc
has_row (Some r) xs t e = refl

pub words_named : (code : ℕ) (xs t : List ℕ) → operand_words (operands_of code) xs ≡ Some t → is_some (row_of code) ≡ true
words_named code xs t e = has_row (row_of code) xs t e

pub words_exact : (code : ℕ) (xs t : List ℕ) → operand_words (operands_of code) xs ≡ Some t → fits (operands_of code) xs ≡ true
words_exact code xs t e = words_fit (operands_of code) xs t e
