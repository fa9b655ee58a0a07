-- Fields of a block: some bits of some bytes, and what they say (own; which they are is in the tables of the crates above).
use Rattle.std.specs.Prelude.{ℕ, ◌+◌, ◌*◌, ◌/◌, ◌%◌, ◌==◌, ◌&&◌, nat_le, nat_lt, Bool, if◌then◌else◌, Option, Some, None, List, [], ◌∷◌, ◌++◌, map, length, take, drop, slice_get, slice_index, codes, flat_map}
use Rattle.std.specs.Fmt.{decimal}
use Rattle.std.specs.List.{list_all}
use Rattle.hex.specs.Hex.{encode_lower}
use Rattle.meaning_words.specs.Notes.{below, digit, rest_words, text_between}
use Rattle.meaning_words.specs.Rates.{nearest}
use Rattle.meaning_fields.specs.Luminance.{luminance}
use Rattle.meaning_fields.specs.declared.fields.Choice.{Choice}
use Rattle.meaning_fields.specs.declared.fields.Field.{Field}
use Rattle.meaning_fields.specs.declared.fields.FieldSays.{FieldSays}
use Rattle.meaning_fields.specs.declared.fields.FieldSays.TheVariants.{Word, Words, Number, Above, Hex, Share, Light}

-- ---- what is said of a value

-- a word, where it is not 0
abbrev pub word : List ℕ → ℕ → List ℕ
word text v = if v == 0 then [] else text

-- one of some words; past the last of them its number
abbrev pub chosen : List ℕ → ℕ → Option (List ℕ) → List ℕ
chosen before v (Some text) = text
chosen before v None = text_between before v (codes " (reserved)")

abbrev pub words : List ℕ → List (List ℕ) → ℕ → List ℕ
words before texts v = chosen before v (slice_get texts v)

-- so many times the value, and some, between two texts
abbrev pub number : List ℕ → ℕ → ℕ → List ℕ → ℕ → List ℕ
number before times plus after v = text_between before (times * v + plus) after

-- the same, and nothing of 0
abbrev pub above : List ℕ → ℕ → List ℕ → ℕ → List ℕ
above before times after v = if v == 0 then [] else text_between before (times * v) after

-- a byte in hex, with its other bits 0; nothing of 0
unfoldable pub hex_text : List ℕ → ℕ → List ℕ
hex_text before b = before ++ encode_lower (b ∷ [])

abbrev pub hex : List ℕ → ℕ → ℕ → List ℕ
hex before weight v = if v == 0 then [] else hex_text before (weight * v % 256)

-- a number of ten thousandths, with four decimals
abbrev pub ten_thousandths : ℕ → List ℕ
ten_thousandths n = decimal (n / 10000) ++ (codes "." ++ (digit (n / 1000) ++ (digit (n / 100) ++ (digit (n / 10) ++ digit n))))

-- the value and some, in units of which so many are 1, to the nearest of four decimals
unfoldable pub share : List ℕ → ℕ → ℕ → ℕ → List ℕ
share before plus by v = before ++ ten_thousandths (nearest ((v + plus) * 10000) by)

-- a luminance by its code; nothing of 0
abbrev pub light : List ℕ → ℕ → List ℕ
light before v = if v == 0 then [] else text_between before (luminance (v % 256)) (codes " cd/m2")

-- ---- fields

-- of so many bytes from a place on, the lowest first, the bits from a weight on, below a range
pub record Row : Type 0 where
  pub place : ℕ
  pub count : ℕ
  pub weight : ℕ
  pub range : ℕ
  pub says : ℕ → List ℕ

abbrev pub row : ℕ → ℕ → ℕ → ℕ → (ℕ → List ℕ) → Row
row place count weight range says = record { place = place; count = count; weight = weight; range = range; says = says }

abbrev pub little : List ℕ → ℕ
little q = slice_index q 0 + slice_index q 1 * 256 + slice_index q 2 * 65536 + slice_index q 3 * 16777216

abbrev pub bytes_of : Row → List ℕ → List ℕ
bytes_of f p = take f.count (drop f.place p)

abbrev pub value_of : Row → List ℕ → ℕ
value_of f p = little (bytes_of f p) / f.weight % f.range

-- a field that ends past the bytes says nothing
abbrev pub field_text : List ℕ → Row → List ℕ
field_text p f = if nat_le (f.place + f.count) (length p) then f.says (value_of f p) else []

unfoldable pub field_words : List Row → List ℕ → List ℕ
field_words rows p = flat_map (field_text p) rows

-- a line: a name, the words of fields, and in hex what stands after so many bytes
unfoldable pub block_meanings : List ℕ → List Row → ℕ → List ℕ → List (List ℕ)
block_meanings name rows size p = below (name ++ (field_words rows p ++ rest_words (drop size p)))

-- ---- the same of the code

abbrev pub text_in_code : Choice → List ℕ
text_in_code c = c.text.now

abbrev pub says_in_code : FieldSays → ℕ → ℕ → List ℕ
says_in_code (Word text) weight = word text.now
says_in_code (Words before texts) weight = words before.now (map text_in_code texts.now)
says_in_code (Number before times plus after) weight = number before.now times plus after.now
says_in_code (Above before times after) weight = above before.now times after.now
says_in_code (Hex before) weight = hex before.now weight
says_in_code (Share before plus by) weight = share before.now plus by
says_in_code (Light before) weight = light before.now

abbrev pub row_in_code : Field → Row
row_in_code f = row f.place f.count f.weight f.range (says_in_code f.says f.weight)

abbrev pub are_short : List Choice → Bool
are_short texts = list_all (λ c. nat_le (length c.text.now) 60) texts

-- at most 60 characters are said
abbrev pub is_short : ℕ → FieldSays → Bool
is_short range (Word text) = nat_le (length text.now) 60
is_short range (Words before texts) = nat_le (length before.now) 29 && are_short texts.now
is_short range (Number before times plus after) = nat_le (length before.now + length after.now) 40 && nat_le (times * range + plus) 1099511627776
is_short range (Above before times after) = nat_le (length before.now + length after.now) 40 && nat_le (times * range) 1099511627776
is_short range (Hex before) = nat_le (length before.now) 40
is_short range (Share before plus by) = nat_le (length before.now) 35 && (nat_le (range + plus) 4294967296 && (nat_lt 0 by && nat_le by 4294967296))
is_short range (Light before) = nat_le (length before.now) 30

abbrev pub is_field : Field → Bool
is_field f = (nat_lt 0 f.weight && nat_le f.weight 4294967296) && (nat_lt 0 f.range && nat_le f.range 4294967296) && (nat_le (f.place + f.count) 65536 && is_short f.range f.says)

abbrev pub are_fields : List Field → Bool
are_fields rows = list_all is_field rows
