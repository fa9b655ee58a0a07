-- Bytes as words of a line: signs part the words, and each word spells one byte (own; as shells, programs and JSON print bytes).
use Rattle.std.specs.Prelude.{ℕ, ◌+◌, ◌*◌, ◌==◌, ◌&&◌, ◌||◌, nat_le, Bool, if◌then◌else◌, List, [], ◌∷◌, take, position, Option, Some, None}
use Rattle.std.specs.List.{slice_split}
use Rattle.std.specs.Char.{is_ascii_hexdigit}
use Rattle.text_core.specs.Number.{number_of}
use Rattle.edid_dump.specs.declared.spelled.Spelling.{Spelling}
use Rattle.edid_dump.specs.declared.spelled.Spelling.TheVariants.{Pair, Escape, Number}
use Rattle.edid_dump.specs.Digits.{digit, is_blank, onto}

-- what may stand between words and around them: blanks, and dashes; what makes strings of escapes; or commas
abbrev pub is_sign : Spelling → ℕ → Bool
is_sign Pair b = is_blank b || (b == 45)
is_sign Escape b = is_blank b || ((b == 92) || ((b == 34) || ((b == 39) || (b == 44))))
is_sign Number b = is_blank b || (b == 44)

-- what ends the words, whatever follows: a quote; what ends a string's statement; what closes a list
abbrev pub is_end : Spelling → ℕ → Bool
is_end Pair b = b == 34
is_end Escape b = (b == 59) || ((b == 41) || (b == 125))
is_end Number b = (b == 93) || ((b == 125) || (b == 41))

-- two hex digits, and nothing else
abbrev pub pair_of : List ℕ → Option ℕ
pair_of (x ∷ y ∷ []) = if is_ascii_hexdigit x && is_ascii_hexdigit y then Some (digit x * 16 + digit y) else None
pair_of (x ∷ y ∷ z ∷ more) = None
pair_of (x ∷ []) = None
pair_of [] = None

-- `x`, and two hex digits after it
abbrev pub escape_of : List ℕ → Option ℕ
escape_of (x ∷ digits) = if x == 120 then pair_of digits else None
escape_of [] = None

-- a number that a byte may have
abbrev pub octet_of : Option ℕ → Option ℕ
octet_of None = None
octet_of (Some number) = if nat_le number 255 then Some number else None

-- the byte that a word spells
abbrev pub byte_in : Spelling → List ℕ → Option ℕ
byte_in Pair word = pair_of word
byte_in Escape word = escape_of word
byte_in Number word = octet_of (number_of word)

abbrev pub with_byte : Option ℕ → Option (List ℕ) → Option (List ℕ)
with_byte None more = None
with_byte (Some b) more = onto b more

-- a word before what others spell; between two signs there is an empty one
abbrev pub with_word : Spelling → List ℕ → Option (List ℕ) → Option (List ℕ)
with_word spelling [] more = more
with_word spelling (x ∷ word) more = with_byte (byte_in spelling (x ∷ word)) more

-- the bytes of words
abbrev pub bytes_of : Spelling → List (List ℕ) → Option (List ℕ)
bytes_of spelling [] = Some []
bytes_of spelling (word ∷ words) = with_word spelling word (bytes_of spelling words)

-- the bytes of the words of a text
abbrev pub words_bytes : Spelling → List ℕ → Option (List ℕ)
words_bytes spelling text = bytes_of spelling (slice_split (is_sign spelling) text)

-- a text up to a place, or all of it
abbrev pub up_to : Option ℕ → List ℕ → List ℕ
up_to None text = text
up_to (Some place) text = take place text

-- the bytes that a text spells up to what ends the words
abbrev pub spelled : Spelling → List ℕ → Option (List ℕ)
spelled spelling text = words_bytes spelling (up_to (position (is_end spelling) text) text)
