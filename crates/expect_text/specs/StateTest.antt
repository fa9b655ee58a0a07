-- How it is found whether a word is one of a state line (own).
use Rattle.std.specs.Prelude.{ℕ, ◌+◌, ◌==◌, ◌%◌, ◌/◌, nat_le, length, ◌&&◌, ◌||◌, Bool, true, false, if◌then◌else◌, codes, List, [], ◌∷◌, Option, Some, None, is_some}
use Rattle.std.specs.Fmt.{decimal}
use Rattle.std.specs.Str.{bytes_eq}
use Rattle.std.specs.List.{list_all, list_any}
use Rattle.text_core.specs.Kind.{kind_named}
use Rattle.text_core.specs.Number.{number_of}
use Rattle.expect_text.specs.Parts.{has}
use Rattle.expect_text.specs.StateWords.{four_parts, key, note_parts, physical_parts, three_parts, value_of}
use Rattle.expect_text.specs.declared.part.PatternPart.{PatternPart}
use Rattle.expect_text.specs.declared.part.PatternPart.TheVariants.{Byte, One, Many, Word, Unworded, Opcode}
use Rattle.expect_text.specs.declared.part.Class.TheVariants.{Hex}
use Rattle.expect_text.specs.declared.state_words.StateField.{StateField}
use Rattle.expect_text.specs.declared.state_words.StateField.TheVariants.{Active, Path, Deck, Menu, Audio, Volume, Mute, Arc, Selected, Language, Osd, Held, Heard, Sub, Queue, Dropped}
use Rattle.expect_text.specs.declared.state_words.Value.{Value}
use Rattle.expect_text.specs.declared.state_words.Value.TheVariants as value

-- ---- texts of parts

abbrev pub is_empty : List ℕ → Bool
is_empty [] = true
is_empty (b ∷ bs) = false

-- a byte of which the function says whether it may be, and then the rest
abbrev pub by_one : (ℕ → Bool) → (List ℕ → Bool) → List ℕ → Bool
by_one may_be is_rest [] = false
by_one may_be is_rest (b ∷ bs) = may_be b && is_rest bs

-- any number of such bytes
abbrev pub by_many : (ℕ → Bool) → (List ℕ → Bool) → List ℕ → Bool
by_many may_be is_rest [] = is_rest []
by_many may_be is_rest (b ∷ bs) = is_rest (b ∷ bs) || (may_be b && by_many may_be is_rest bs)

abbrev pub is_text : List PatternPart → List ℕ → Bool
is_text [] text = is_empty text
is_text (Byte b ∷ parts) text = by_one (λ x. x == b) (is_text parts) text
is_text (One class ∷ parts) text = by_one (has class) (is_text parts) text
is_text (Many class ∷ parts) text = by_many (has class) (is_text parts) text
is_text (Word set ∷ parts) text = false
is_text (Unworded kind ∷ parts) text = false
is_text (Opcode code ∷ parts) text = false

-- ---- words

abbrev pub is_dash : List ℕ → Bool
is_dash text = bytes_eq text (codes "-")

abbrev pub is_text_or_dash : List PatternPart → List ℕ → Bool
is_text_or_dash parts text = is_text parts text || is_dash text

-- a number up to this one, read and written again
abbrev pub number_by : ℕ → List ℕ → Option ℕ → Bool
number_by most text None = false
number_by most text (Some n) = nat_le n most && bytes_eq (decimal n) text

abbrev pub is_number : ℕ → List ℕ → Bool
is_number most text = number_by most text (number_of text)

-- from so many bytes to so many, two hex digits each
abbrev pub of_bytes : ℕ → ℕ → List ℕ → Bool
of_bytes least most text = (length text % 2 == 0) && nat_le least (length text / 2) && nat_le (length text / 2) most && list_all (has Hex) text

abbrev pub is_value : Value → List ℕ → Bool
is_value value.Switch text = bytes_eq text (codes "on") || (bytes_eq text (codes "off") || is_dash text)
is_value value.Physical text = is_text_or_dash physical_parts text
is_value value.Byte text = is_text_or_dash (One Hex ∷ One Hex ∷ []) text
is_value (value.Number most) text = is_number most text || is_dash text
is_value (value.Bytes least most) text = of_bytes least most text || is_dash text
is_value value.Note text = is_text_or_dash note_parts text
is_value value.Nibble text = is_text_or_dash (One Hex ∷ []) text
is_value (value.Count most) text = is_number most text

-- a text, and then the rest
abbrev pub by_front : List ℕ → (List ℕ → Bool) → List ℕ → Bool
by_front [] is_rest text = is_rest text
by_front (b ∷ bs) is_rest text = by_one (λ x. x == b) (by_front bs is_rest) text

abbrev pub fields : List StateField
fields = Active ∷ Path ∷ Deck ∷ Menu ∷ Audio ∷ Volume ∷ Mute ∷ Arc ∷ Selected ∷ Language ∷ Osd ∷ Held ∷ Heard ∷ Sub ∷ Queue ∷ Dropped ∷ []

abbrev pub is_of_field : List ℕ → StateField → Bool
is_of_field word field = by_front (key field) (is_value (value_of field)) word

-- `+`, and one address or none
abbrev pub is_second : List ℕ → Bool
is_second text = by_one (λ x. x == 43) (is_text_or_dash (One Hex ∷ [])) text

-- two addresses, the first alone, or neither
abbrev pub is_pair : List ℕ → Bool
is_pair word = by_one (has Hex) is_second word || bytes_eq word (codes "-+-")

abbrev pub is_bare : List ℕ → Bool
is_bare word =
    bytes_eq word (codes "on")
    || (bytes_eq word (codes "standby") || (is_some (kind_named word) || (is_text_or_dash (One Hex ∷ []) word || (is_pair word || (is_text three_parts word || (is_text four_parts word || is_text physical_parts word))))))

unfoldable pub is_state_word : List ℕ → Bool
is_state_word word = is_bare word || list_any (is_of_field word) fields

-- ---- words at fault

-- the first of these words that no state line has, where the first of them has this number
abbrev pub strange_from : ℕ → List (List ℕ) → Option ℕ
strange_from number [] = None
strange_from number (word ∷ words) = if is_state_word word then strange_from (number + 1) words else Some number

-- after `not` stand the words that are not to be there
abbrev pub is_not : List ℕ → Bool
is_not word = bytes_eq word (codes "not")

abbrev pub strange_word : List (List ℕ) → Option ℕ
strange_word [] = None
strange_word (word ∷ words) = if is_not word then strange_from 5 words else strange_from 4 (word ∷ words)
