-- Texts as parts, and which patterns a text of such parts meets (own).
use Rattle.std.specs.Prelude.{◌≡◌, ℕ, zero, suc, ◌+◌, ◌<◌, ◌%◌, ◌==◌, nat_le, ◌&&◌, ◌||◌, not, Bool, true, false, if◌then◌else◌, is_some, length, List, [], ◌∷◌, ◌++◌, slice_get, Some}
use Rattle.std.specs.List.{list_all, list_any}
use Rattle.text_core.specs.Piece.{hex_text}
use Rattle.message_table.specs.WordSets.{NamedByte, word_of, words_of}
use Rattle.message_table.specs.declared.word_set.WordSet.{WordSet}
use Rattle.message_text.specs.FrameText.{is_letter, is_text_byte, opcode_text}
use Rattle.expect_text.specs.Fits.{fits}
use Rattle.expect_text.specs.declared.part.Class.{Class}
use Rattle.expect_text.specs.declared.part.Class.TheVariants.{Hex, Directed, Digit, NonZero, UpToFive, Letter, Quotable, Any}
use Rattle.expect_text.specs.declared.part.PatternPart.{PatternPart}
use Rattle.expect_text.specs.declared.part.PatternPart.TheVariants.{Byte, One, Many, Word, Unworded, Opcode}
use Rattle.expect_text.specs.declared.part.Worded.{Worded}
use Rattle.expect_text.specs.declared.part.Worded.TheVariants.{Listed, Character, Quoted, Loudness}

abbrev pub is_digit : ℕ → Bool
is_digit b = nat_le 48 b && nat_le b 57

-- the bytes of a class
abbrev pub has : Class → ℕ → Bool
has Hex b = is_digit b || (nat_le 97 b && nat_le b 102)
has Directed b = is_digit b || (nat_le 97 b && nat_le b 101)
has Digit b = is_digit b
has NonZero b = nat_le 49 b && nat_le b 57
has UpToFive b = nat_le 48 b && nat_le b 53
has Letter b = is_letter b
has Quotable b = is_text_byte b
has Any b = true

-- what is written as a word where a byte of an operand has one, and in hex where it has none: a word of a set, a letter of a language, a
-- character of a text, a volume up to 100
abbrev pub has_word : Worded → ℕ → Bool
has_word (Listed set) b = is_some (word_of (words_of set) b)
has_word Character b = is_letter b
has_word Quoted b = is_text_byte b
has_word Loudness b = nat_le (b % 128) 100

-- ---- the texts of some parts

-- A byte, one byte of a class, any number of bytes of a class, a word of a set, two hex digits of a byte that has no word, or an opcode's
-- name; and at the end a text of another kind.
abbrev pub IsTextBefore : (List ℕ → Type 0) → List PatternPart → List ℕ → Type 0
IsTextBefore Rest [] text = Rest text
IsTextBefore Rest (Byte b ∷ parts) text = (more : List ℕ) × (text ≡ b ∷ more) × IsTextBefore Rest parts more
IsTextBefore Rest (One class ∷ parts) text = (b : ℕ) × (more : List ℕ) × (has class b ≡ true) × (text ≡ b ∷ more) × IsTextBefore Rest parts more
IsTextBefore Rest (Many class ∷ parts) text = (front : List ℕ) × (more : List ℕ) × (list_all (has class) front ≡ true) × (text ≡ front ++ more) × IsTextBefore Rest parts more
IsTextBefore Rest (Word set ∷ parts) text = (place : ℕ) × (word : NamedByte) × (more : List ℕ) × (slice_get (words_of set) place ≡ Some word) × (text ≡ word.text ++ more) × IsTextBefore Rest parts more
IsTextBefore Rest (Unworded kind ∷ parts) text = (b : ℕ) × (more : List ℕ) × (b < 256) × (has_word kind b ≡ false) × (text ≡ hex_text b ++ more) × IsTextBefore Rest parts more
IsTextBefore Rest (Opcode code ∷ parts) text = (more : List ℕ) × (text ≡ opcode_text code ++ more) × IsTextBefore Rest parts more

-- nothing else at the end
abbrev pub IsEnd : List ℕ → Type 0
IsEnd text = text ≡ []

abbrev pub IsTextOf : List PatternPart → List ℕ → Type 0
IsTextOf parts text = IsTextBefore IsEnd parts text

-- ---- patterns

-- by a byte of which the function says whether it may be, then a text of which another one says which patterns it meets; a `*` goes
-- over a byte that may be other than a space
abbrev pub after_one : (ℕ → Bool) → Bool → (List ℕ → Bool) → List ℕ → Bool
after_one may_be is_word met [] = may_be 32
after_one may_be is_word met (p ∷ ps) = if p == 42 then after_one may_be is_word met ps || (is_word && met (p ∷ ps)) else may_be p && met ps

abbrev pub after_byte : ℕ → (List ℕ → Bool) → List ℕ → Bool
after_byte b met pattern = after_one (λ p. b == p) (not (b == 32)) met pattern

-- by any number of such bytes
abbrev pub after_many : (ℕ → Bool) → (List ℕ → Bool) → List ℕ → Bool
after_many may_be met [] = met [] || may_be 32
after_many may_be met (p ∷ ps) = met (p ∷ ps) || (((p == 42) || may_be p) && after_many may_be met ps)

-- by this text
abbrev pub after_text : List ℕ → (List ℕ → Bool) → List ℕ → Bool
after_text [] met pattern = met pattern
after_text (b ∷ bs) met pattern = after_byte b (after_text bs met) pattern

abbrev pub after_word : List NamedByte → (List ℕ → Bool) → List ℕ → Bool
after_word words met pattern = list_any (λ w. after_text w.text met pattern) words

-- by a word of the set
unfoldable pub after_set : WordSet → (List ℕ → Bool) → List ℕ → Bool
after_set set met pattern = after_word (words_of set) met pattern

-- one of the numbers below this one is so
unfoldable pub any_below : ℕ → (ℕ → Bool) → Bool
any_below zero is_so = false
any_below (suc n) is_so = is_so n || any_below n is_so

-- by two hex digits of a byte that has no word
abbrev pub is_met_unworded : Worded → (List ℕ → Bool) → List ℕ → ℕ → Bool
is_met_unworded kind met pattern b = not (has_word kind b) && after_text (hex_text b) met pattern

unfoldable pub after_unworded : Worded → (List ℕ → Bool) → List ℕ → Bool
after_unworded kind met pattern = any_below 256 (is_met_unworded kind met pattern)

-- a text of these parts, and then one of which the function says which patterns it meets, meets the pattern
abbrev pub is_met : (List ℕ → Bool) → List PatternPart → List ℕ → Bool
is_met met [] pattern = met pattern
is_met met (Byte b ∷ parts) pattern = after_byte b (is_met met parts) pattern
is_met met (One class ∷ parts) pattern = after_one (has class) true (is_met met parts) pattern
is_met met (Many class ∷ parts) pattern = after_many (has class) (is_met met parts) pattern
is_met met (Word set ∷ parts) pattern = after_set set (is_met met parts) pattern
is_met met (Unworded kind ∷ parts) pattern = after_unworded kind (is_met met parts) pattern
is_met met (Opcode code ∷ parts) pattern = after_text (opcode_text code) (is_met met parts) pattern

-- by the end of a text
abbrev pub end_met : List ℕ → Bool
end_met pattern = fits pattern []

-- ---- how long it takes

abbrev pub all_bytes : List NamedByte → ℕ
all_bytes [] = 0
all_bytes (w ∷ words) = 1 + length w.text + all_bytes words

abbrev pub weight : List PatternPart → ℕ
weight [] = 0
weight (Byte b ∷ parts) = 1 + weight parts
weight (One class ∷ parts) = 1 + weight parts
weight (Many class ∷ parts) = 1 + weight parts
weight (Word set ∷ parts) = 4 + all_bytes (words_of set) + weight parts
weight (Unworded kind ∷ parts) = 300 + weight parts
weight (Opcode code ∷ parts) = 3 + length (opcode_text code) + weight parts
