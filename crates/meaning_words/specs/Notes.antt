-- The lines that stand below a line of an EDID's text, and how they are made of words (own).
use Rattle.std.specs.Prelude.{ℕ, ◌+◌, ◌/◌, ◌%◌, ◌==◌, ◌&&◌, nat_le, nat_lt, Bool, true, false, if◌then◌else◌, List, [], ◌∷◌, ◌++◌, map, length, codes, flat_map}
use Rattle.std.specs.Fmt.{decimal}
use Rattle.std.specs.List.{list_all}
use Rattle.hex.specs.Hex.{encode_lower}
use Rattle.meaning_words.specs.declared.bits.Bit.{Bit}

-- ---- lines

-- a character of ASCII, and a dot for any other byte
abbrev pub printable : ℕ → ℕ
printable b = if nat_le 0x20 b && nat_le b 0x7e then b else 46

-- a line of its own, after two spaces
abbrev pub own_line : List ℕ → List ℕ
own_line text = codes "  " ++ (map printable text ++ codes "\n")

-- ---- words

-- a word, with a comma and a space before it
abbrev pub comma : List ℕ → List ℕ
comma word = codes ", " ++ word

-- a word where something holds
abbrev pub when : Bool → List ℕ → List ℕ
when true word = comma word
when false word = []

-- one line of words with commas between them, where there are some
abbrev pub below : List ℕ → List (List ℕ)
below [] = []
below (c ∷ []) = []
below (c ∷ d ∷ text) = text ∷ []

-- ---- bits

-- a bit by its weight, and what it says
pub record Row : Type 0 where
  pub weight : ℕ
  pub word : List ℕ

abbrev pub row : ℕ → List ℕ → Row
row weight word = record { weight = weight; word = word }

-- the same of the code
abbrev pub row_in_code : Bit → Row
row_in_code b = row b.weight b.word.now

abbrev pub is_set : ℕ → ℕ → Bool
is_set bits weight = bits / weight % 2 == 1

abbrev pub set_word : ℕ → Row → List ℕ
set_word bits r = when (is_set bits r.weight) r.word

-- the words of the bits that are set, in the order of the rows
unfoldable pub set_words : List Row → ℕ → List ℕ
set_words rows bits = flat_map (set_word bits) rows

-- a space after the word
abbrev pub spaced_word : ℕ → Row → List ℕ
spaced_word bits r = if is_set bits r.weight then r.word ++ codes " " else []

-- the words of the bits that are set, a space after each
unfoldable pub spaced_words : List Row → ℕ → List ℕ
spaced_words rows bits = flat_map (spaced_word bits) rows

abbrev pub set_line : ℕ → Row → List (List ℕ)
set_line bits r = if is_set bits r.weight then r.word ∷ [] else []

-- a line for each bit that is set
unfoldable pub set_lines : List Row → ℕ → List (List ℕ)
set_lines rows bits = flat_map (set_line bits) rows

-- a row is a bit, whose word has at most 38 characters
abbrev pub is_row : Bit → Bool
is_row b = nat_lt 0 b.weight && nat_le (length b.word.now) 38

abbrev pub are_rows : List Bit → Bool
are_rows rows = list_all is_row rows

-- ---- numbers

-- a number between two texts
unfoldable pub text_between : List ℕ → ℕ → List ℕ → List ℕ
text_between before n after = before ++ (decimal n ++ after)

-- so many of something
abbrev pub plural : ℕ → List ℕ
plural n = if n == 1 then [] else codes "s"

unfoldable pub counted_text : ℕ → List ℕ → List ℕ
counted_text n word = decimal n ++ (word ++ plural n)

-- the last digit of a number
abbrev pub digit : ℕ → List ℕ
digit n = (48 + n % 10) ∷ []

-- a count of hundredths, with two decimals
abbrev pub hundredths : ℕ → List ℕ
hundredths n = decimal (n / 100) ++ (codes "." ++ (digit (n / 10) ++ digit n))

-- a count of thousandths, with three decimals
abbrev pub thousandths : ℕ → List ℕ
thousandths n = decimal (n / 1000) ++ (codes "." ++ (digit (n / 100) ++ (digit (n / 10) ++ digit n)))

-- bytes of no known meaning
unfoldable pub rest_words : List ℕ → List ℕ
rest_words [] = []
rest_words (b ∷ bs) = codes ", then in hex " ++ encode_lower (b ∷ bs)
