-- Spellings of bytes as a grammar (own), and what holds of them.
use Rattle.std.specs.Prelude.{◌≡◌, ℕ, ◌↔◌, true, List, [], ◌∷◌, Ok}
use Rattle.std.specs.List.{flat_map}
use Rattle.text_core.specs.Piece.{hex_text}
use Rattle.text_core.specs.Bytes.{are_bytes}
use Rattle.message_hex.specs.Bytes.{byte_of, bytes_from, is_digit, is_mark, is_prefix}
use Rattle.message_hex.specs.declared.bytes.HexState.TheVariants.{Between}

-- a part of a line: a mark, a byte as two digits, or a byte with `0x` before it
pub data Part : Type 0 where
  Mark : ℕ → Part
  Byte : ℕ → ℕ → Part
  Prefixed : ℕ → ℕ → ℕ → Part

abbrev pub IsPart : Part → Type 0
IsPart (Mark c) = is_mark c ≡ true
IsPart (Byte high low) = (is_digit high ≡ true) × (is_digit low ≡ true)
IsPart (Prefixed x high low) = (is_prefix 48 x ≡ true) × (is_digit high ≡ true) × (is_digit low ≡ true)

abbrev pub AreParts : List Part → Type 0
AreParts [] = Unit {0}
AreParts (part ∷ parts) = IsPart part × AreParts parts

abbrev pub part_text : Part → List ℕ
part_text (Mark c) = c ∷ []
part_text (Byte high low) = high ∷ low ∷ []
part_text (Prefixed x high low) = 48 ∷ x ∷ high ∷ low ∷ []

abbrev pub part_bytes : Part → List ℕ
part_bytes (Mark c) = []
part_bytes (Byte high low) = byte_of high low ∷ []
part_bytes (Prefixed x high low) = byte_of high low ∷ []

-- a text spells these bytes
pub record Spells (text bytes : List ℕ) : Type 0 where
  pub parts : List Part
  pub are : AreParts parts
  pub spelled : text ≡ flat_map part_text parts
  pub reported : bytes ≡ flat_map part_bytes parts

-- what is read of a text is what it spells, and nothing else
abbrev pub SpellingsAreRead : Type 0
SpellingsAreRead = (text bytes : List ℕ) → (bytes_from Between text ≡ Ok bytes) ↔ Spells text bytes

-- the hex that the assembler writes of a frame spells the frame's bytes
abbrev pub AssembledFramesAreRead : Type 0
AssembledFramesAreRead = (bytes : List ℕ) → are_bytes bytes ≡ true → bytes_from Between (flat_map hex_text bytes) ≡ Ok bytes
