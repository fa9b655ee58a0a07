-- What a file that has an EDID holds, by its first bytes (own). An EDID begins with the header 00 FF FF FF FF FF FF 00 (E-EDID 1.4, 3.3), which is
-- no text.
use Rattle.std.specs.Prelude.{ℕ, ◌==◌, nat_le, List, length, take, codes, Bool, not, ◌&&◌, ◌||◌, if◌then◌else◌, Option, Some, None}
use Rattle.std.specs.List.{list_all}
use Rattle.std.specs.Str.{bytes_eq}
use Rattle.cli_choice.specs.declared.choice.Source.{Source}
use Rattle.cli_choice.specs.declared.choice.Source.TheVariants.{Bytes, Dump, Words}

-- a tab, a line feed, a carriage return, or no control character, or one of a longer character
abbrev pub is_text_byte : ℕ → Bool
is_text_byte byte = (byte == 9) || (byte == 10) || (byte == 13) || (nat_le 32 byte && not (byte == 127) && not (byte == 255))

-- there are bytes, and the first eight are of text
abbrev pub is_text : List ℕ → Bool
is_text input = not (length (take 8 input) == 0) && list_all is_text_byte (take 8 input)

-- the text of an EDID, other text with a hex dump, or bytes
abbrev pub detected : List ℕ → Source
detected input = if bytes_eq (codes "edid ") (take 5 input) then Words else if is_text input then Dump 1 else Bytes

-- what a flag says, or else what the first bytes do
abbrev pub told : Option Source → List ℕ → Source
told (Some source) input = source
told None input = detected input
