-- The one text of a frame (own): its addresses, its opcode's name, and its operands.
use Rattle.std.specs.Prelude.{ℕ, ◌/◌, ◌%◌, ◌==◌, nat_le, Bool, not, ◌&&◌, if◌then◌else◌, Option, None, Some, List, [], ◌∷◌, ◌++◌, length, codes, take, drop, option_map, unwrap_or, decimal}
use Rattle.std.specs.List.{flat_map, list_all}
use Rattle.text_core.specs.Piece.{nibble_text, hex_text, phys_text}
use Rattle.message_table.specs.Table.{name_of, operands_of}
use Rattle.message_table.specs.WordSets.{word_of, words_of}
use Rattle.message_table.specs.Operands.{size_of}
use Rattle.message_table.specs.declared.word_set.WordSet.{WordSet}
use Rattle.message_table.specs.declared.operand.Operand.{Operand}
use Rattle.message_table.specs.declared.operand.Operand.TheVariants.{Byte, Word, Language, Vendor, Address}
use Rattle.message_table.specs.declared.operand.Operands.{Operands}
use Rattle.message_table.specs.declared.operand.Operands.TheVariants.{Raw, Nothing, One, Optional, Two, Volume, Text, WordAndText}

-- a physical address of two bytes, after a space
abbrev pub address_word : ℕ → ℕ → List ℕ
address_word high low = 32 ∷ phys_text (record { high = high; low = low })

abbrev pub is_letter : ℕ → Bool
is_letter b = nat_le 97 b && nat_le b 122

-- a character that stands in quotes: printable, and no quote
abbrev pub is_text_byte : ℕ → Bool
is_text_byte b = nat_le 32 b && nat_le b 126 && not (b == 34)

abbrev pub is_text : ℕ → List ℕ → Bool
is_text most xs = nat_le 1 (length xs) && nat_le (length xs) most && list_all is_text_byte xs

-- a text in quotes, after a space
abbrev pub quoted_text : List ℕ → List ℕ
quoted_text xs = 32 ∷ 34 ∷ xs ++ 34 ∷ []

abbrev pub nothing_words : List ℕ → Option (List ℕ)
nothing_words [] = Some []
nothing_words (x ∷ xs) = None

-- the word of a byte in a set, after a space
abbrev pub spaced_word : WordSet → ℕ → Option (List ℕ)
spaced_word set byte = option_map (λ w. 32 ∷ w) (word_of (words_of set) byte)

abbrev pub set_words : WordSet → List ℕ → Option (List ℕ)
set_words set (byte ∷ []) = spaced_word set byte
set_words set _ = None

abbrev pub byte_words : List ℕ → Option (List ℕ)
byte_words (byte ∷ []) = Some (32 ∷ hex_text byte)
byte_words _ = None

abbrev pub language_words : List ℕ → Option (List ℕ)
language_words (a ∷ b ∷ c ∷ []) = if is_letter a && is_letter b && is_letter c then Some (32 ∷ a ∷ b ∷ c ∷ []) else None
language_words _ = None

abbrev pub vendor_words : List ℕ → Option (List ℕ)
vendor_words (a ∷ b ∷ c ∷ []) = Some (32 ∷ hex_text a ++ hex_text b ++ hex_text c)
vendor_words _ = None

abbrev pub text_words : List ℕ → Option (List ℕ)
text_words xs = if is_text 14 xs then Some (quoted_text xs) else None

abbrev pub word_and_text : WordSet → List ℕ → Option (List ℕ)
word_and_text set [] = None
word_and_text set (byte ∷ []) = spaced_word set byte
word_and_text set (byte ∷ x ∷ xs) =
    if is_text 13 (x ∷ xs) then option_map (λ w. w ++ quoted_text (x ∷ xs)) (spaced_word set byte) else None

abbrev pub address_words : List ℕ → Option (List ℕ)
address_words (high ∷ low ∷ []) = Some (address_word high low)
address_words _ = None

-- the word of an operand of these bytes, after a space
abbrev pub operand_word : Operand → List ℕ → Option (List ℕ)
operand_word Byte xs = byte_words xs
operand_word (Word set) xs = set_words set xs
operand_word Language xs = language_words xs
operand_word Vendor xs = vendor_words xs
operand_word Address xs = address_words xs

abbrev pub optional_word : Operand → List ℕ → Option (List ℕ)
optional_word operand [] = Some []
optional_word operand (x ∷ xs) = operand_word operand (x ∷ xs)

-- both texts, where both are there
abbrev pub with_both : Option (List ℕ) → Option (List ℕ) → Option (List ℕ)
with_both (Some first) (Some second) = Some (first ++ second)
with_both _ _ = None

abbrev pub two_words : Operand → Operand → List ℕ → Option (List ℕ)
two_words first second xs = with_both (operand_word first (take (size_of first) xs)) (operand_word second (drop (size_of first) xs))

-- bit 7 says that the sound is off, bits 6 to 0 how loud it is, up to 100
abbrev pub volume_words : List ℕ → Option (List ℕ)
volume_words (status ∷ []) =
    if nat_le (status % 128) 100
    then Some ((if nat_le 128 status then codes " mute " else codes " sound ") ++ decimal (status % 128))
    else None
volume_words _ = None

-- the words of operands that fit their row exactly, each after a space
abbrev pub operand_words : Operands → List ℕ → Option (List ℕ)
operand_words Raw xs = None
operand_words Nothing xs = nothing_words xs
operand_words (One operand) xs = operand_word operand xs
operand_words (Optional operand) xs = optional_word operand xs
operand_words (Two first second) xs = two_words first second xs
operand_words Volume xs = volume_words xs
operand_words Text xs = text_words xs
operand_words (WordAndText set) xs = word_and_text set xs

-- operands as they are: a colon and their hex digits
abbrev pub raw_text : List ℕ → List ℕ
raw_text xs = 32 ∷ 58 ∷ flat_map hex_text xs

abbrev pub operands_text : Operands → List ℕ → List ℕ
operands_text form xs = unwrap_or (operand_words form xs) (raw_text xs)

-- the name of an opcode, and `op-` and its hex digits where it has none
abbrev pub opcode_text : ℕ → List ℕ
opcode_text code = unwrap_or (name_of code) (codes "op-" ++ hex_text code)

-- initiator and destination
abbrev pub header_text : ℕ → List ℕ
header_text header = nibble_text (header / 16) ++ codes ">" ++ nibble_text (header % 16)

-- the one text of a frame of these bytes
abbrev pub frame_text : List ℕ → List ℕ
frame_text [] = []
frame_text (header ∷ []) = header_text header
frame_text (header ∷ code ∷ operands) = header_text header ++ ((32 ∷ opcode_text code) ++ operands_text (operands_of code) operands)
