-- Words, what they stand for, and texts of several words (own).
use Rattle.std.specs.Prelude.{ℕ, ◌+◌, ◌==◌, bit_or, Bool, if◌then◌else◌, List, [], ◌∷◌, take, Option, Some, None, Result, Ok, Err}
use Rattle.std.specs.List.{position_or_len, slice_split}
use Rattle.std.specs.Str.{bytes_eq}
use Rattle.edid_spelling.specs.declared.rows.Named.{Named}

-- a word, and the number that it stands for
pub record Row : Type 0 where
  pub word : List ℕ
  pub number : ℕ

abbrev pub row : List ℕ → ℕ → Row
row word number = record { word = word; number = number }

-- the same of the code
abbrev pub row_in_code : Named → Row
row_in_code n = row n.word.now n.number

-- what a word stands for
abbrev pub stands_for : List Row → List ℕ → Option ℕ
stands_for [] word = None
stands_for (r ∷ rows) word = if bytes_eq word r.word then Some r.number else stands_for rows word

-- the parts of a text, one separator apart
abbrev pub parts_of : ℕ → List ℕ → List (List ℕ)
parts_of separator text = slice_split (λ b. b == separator) text

abbrev pub parts_after : ℕ → Option (List ℕ) → List (List ℕ)
parts_after separator None = []
parts_after separator (Some rest) = parts_of separator rest

-- ---- bits: words in the order of their rows

abbrev pub none_left : ℕ → List (List ℕ) → Result ℕ ℕ
none_left number [] = Ok 0
none_left number (word ∷ words) = Err number

abbrev pub with_bit : ℕ → Result ℕ ℕ → Result ℕ ℕ
with_bit bit (Ok bits) = Ok (bit_or bit bits)
with_bit bit (Err number) = Err number

-- The bits of these words. A word that no row has after those of the words before it is at fault; the first word has this number.
abbrev pub bits_of : List Row → ℕ → List (List ℕ) → Result ℕ ℕ
bits_of [] number words = none_left number words
bits_of (r ∷ rows) number [] = Ok 0
bits_of (r ∷ rows) number (word ∷ words) =
    if bytes_eq word r.word then with_bit r.number (bits_of rows (number + 1) words) else bits_of rows number (word ∷ words)

-- ---- words one by one

-- the first word, where there is one, and the others
abbrev pub first_of : List (List ℕ) → List ℕ
first_of [] = []
first_of (word ∷ words) = word

abbrev pub others_of : List (List ℕ) → List (List ℕ)
others_of [] = []
others_of (word ∷ words) = words

-- ---- what each word says, or each group of words

-- The place, from 0, of the first that says nothing among so many, or of the one after them; where there is none, how many there are.
abbrev pub fault_place : {A : Type 0} → (A → Bool) → ℕ → List A → ℕ
fault_place says_nothing most items = position_or_len says_nothing (take most items)
