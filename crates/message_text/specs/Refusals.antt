-- Why a text is no frame's, the first reason (own): addresses, name, too many hex digits, count of words, words.
use Rattle.std.specs.Prelude.{◌≡◌, ◌≢◌, ℕ, ◌==◌, ◌<◌, nat_lt, nat_le, Bool, true, false, ◌&&◌, ◌||◌, if◌then◌else◌, List, [], ◌∷◌, length, slice_index, drop}
use Rattle.std.specs.List.{before_first, position_or_len}
use Rattle.text_core.specs.Words.{spaces_unquoted}
use Rattle.text_core.specs.Phys.{is_hex_digit}
use Rattle.message_text.specs.FrameText.{opcode_text}
use Rattle.message_table.specs.Table.{operands_of}
use Rattle.message_text.specs.declared.assembler.AssembleError.{AssembleError}
use Rattle.message_text.specs.declared.assembler.AssembleError.TheVariants.{Name, Operand, Count, Address, TooLong}
use Rattle.message_table.specs.declared.operand.Operands.{Operands}
use Rattle.message_table.specs.declared.operand.Operands.TheVariants.{Raw, Nothing, One, Optional, Two, Volume, Text, WordAndText}

abbrev pub is_space : ℕ → Bool
is_space b = b == 32

abbrev pub is_quote : ℕ → Bool
is_quote b = b == 34

abbrev pub are_addresses : List ℕ → Bool
are_addresses (from ∷ sign ∷ to ∷ []) = is_hex_digit from && (sign == 62) && is_hex_digit to
are_addresses _ = false

-- what stands before the first space is an initiator and a destination
abbrev pub has_addresses : List ℕ → Bool
has_addresses text = are_addresses (before_first is_space text)

-- what follows the addresses up to the next space or the end
abbrev pub name_in : List ℕ → List ℕ
name_in text = before_first is_space (drop 4 text)

-- what follows the name
abbrev pub after_name : List ℕ → List ℕ
after_name text = drop (position_or_len is_space (drop 4 text)) (drop 4 text)

-- Words are parted at each space, but a quote and all after it belong to one word.
abbrev pub first_word_len : List ℕ → ℕ
first_word_len text =
    if nat_lt (position_or_len is_space text) (position_or_len is_quote text) then position_or_len is_space text else length text

-- each word stands after a space
abbrev pub word_count : List ℕ → ℕ
word_count text = spaces_unquoted text

-- the first word is a colon with more than 28 characters after it
abbrev pub is_too_long : List ℕ → Bool
is_too_long text = (slice_index text 1 == 58) && nat_lt 29 (first_word_len (drop 1 text))

-- how many words a row may have
abbrev pub least_words : Operands → ℕ
least_words Raw = 1
least_words Nothing = 0
least_words (One a) = 1
least_words (Optional a) = 0
least_words (Two a b) = 2
least_words Volume = 2
least_words Text = 1
least_words (WordAndText set) = 1

abbrev pub most_words : Operands → ℕ
most_words (Optional a) = 1
most_words (WordAndText set) = 2
most_words form = least_words form

abbrev pub has_count : Operands → List ℕ → Bool
has_count form text =
    ((word_count text == 1) && (slice_index text 1 == 58))
    || (nat_le (least_words form) (word_count text) && nat_le (word_count text) (most_words form))

-- the text begins with addresses and the name of this opcode
pub record IsCommand (text : List ℕ) (code : ℕ) : Type 0 where
  pub addresses : has_addresses text ≡ true
  pub small : code < 256
  pub named : opcode_text code ≡ name_in text

-- the first reason for which a text is refused
abbrev pub IsRefused : List ℕ → AssembleError → Type 0
IsRefused text Address = has_addresses text ≡ false
IsRefused text Name = (has_addresses text ≡ true) × ((code : ℕ) → code < 256 → opcode_text code ≢ name_in text)
IsRefused text TooLong = (code : ℕ) × (IsCommand text code × (is_too_long (after_name text) ≡ true))
IsRefused text Count =
    (code : ℕ) × (IsCommand text code × (is_too_long (after_name text) ≡ false) × (has_count (operands_of code) (after_name text) ≡ false))
IsRefused text Operand =
    (code : ℕ) × (IsCommand text code × (is_too_long (after_name text) ≡ false) × (has_count (operands_of code) (after_name text) ≡ true))
