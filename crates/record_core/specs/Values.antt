-- Values of plain cells, one for each that a cell has.
use Rattle.std.specs.Prelude.{ℕ, Bool, List, [], ◌++◌, Option, codes}
use Rattle.std.specs.List.{flat_map}
use Rattle.std.specs.Fmt.{decimal}
use Rattle.text_core.specs.Piece.{hex_or_dash, hex_text, piece_text}
use Rattle.text_core.specs.declared.phys.Phys.{Phys as Address}
use Rattle.text_core.specs.declared.piece.Piece.{Piece}
use Rattle.text_core.specs.declared.piece.Piece.TheVariants.{Decimal, DecimalOrDash, HexByte, HexByteOrDash, Nibble, NibbleOrDash, Phys, PhysOrDash, Switch}
use Rattle.record_core.specs.Cells.{PlainValue, bytes_json, gathered, in_quotes, item_json, joined, listed, named_json, named_position_json, piece_json, placed_json, placed_text, slot_json, slot_position_json, slot_text, switch_json, verdict_text}
use Rattle.record_core.specs.Strings.{escaped_text, string_text, text_value}

abbrev pub plain : List ℕ → List ℕ → PlainValue
plain word json = record { word = word; json = json }

abbrev pub nothing : PlainValue
nothing = plain [] (codes "null")

-- a word, which is null where it is a dash or has no byte
abbrev pub text : List ℕ → PlainValue
text word = plain word (text_value word)

-- a text, which is a string whatever it says
abbrev pub string : List ℕ → PlainValue
string word = plain word (string_text word)

-- the text of a test, with its backslashes in the line alone
abbrev pub escaped : List ℕ → PlainValue
escaped word = plain (escaped_text word) (string_text word)

-- bytes in hex
abbrev pub hex : List ℕ → PlainValue
hex bytes = plain (flat_map hex_text bytes) (in_quotes (flat_map hex_text bytes))

-- the same, a dash, or null, for none
abbrev pub hex_or : List ℕ → PlainValue
hex_or bytes = plain (hex_or_dash bytes) (bytes_json bytes)

-- what needs no text: as a part of a line has it
abbrev pub one : Piece → PlainValue
one p = plain (piece_text p) (piece_json p)

abbrev pub number : ℕ → PlainValue
number n = one (Decimal n)

abbrev pub nibble : ℕ → PlainValue
nibble n = one (Nibble n)

abbrev pub hex_byte : ℕ → PlainValue
hex_byte n = one (HexByte n)

abbrev pub phys : Address → PlainValue
phys p = one (Phys p)

abbrev pub switch : Bool → PlainValue
switch is_on = one (Switch is_on)

abbrev pub number_or : Option ℕ → PlainValue
number_or o = one (DecimalOrDash o)

abbrev pub nibble_or : Option ℕ → PlainValue
nibble_or o = one (NibbleOrDash o)

abbrev pub hex_byte_or : Option ℕ → PlainValue
hex_byte_or o = one (HexByteOrDash o)

abbrev pub phys_or : Option Address → PlainValue
phys_or o = one (PhysOrDash o)

-- ---- several

-- what needs no texts
abbrev pub pieces : List ℕ → List Piece → PlainValue
pieces sign ps = plain (joined piece_text sign ps) (listed item_json ps)

abbrev pub words : {X : Type 0} → (X → PlainValue) → List ℕ → List X → PlainValue
words of sign xs = plain (joined (λ x. (of x).word) sign xs) (listed (λ x. (of x).json) xs)

-- parts of one value, each with the name of its field
abbrev pub parts : {X : Type 0} → (X → List ℕ) → (X → PlainValue) → List ℕ → List X → PlainValue
parts name of sign xs = plain (joined (λ x. (of x).word) sign xs) (gathered (λ x. named_json (name x) (of x).json) xs)

-- a device, and the slot at which it stopped
abbrev pub out : List ℕ → ℕ → PlainValue
out name slot = plain (name ++ (codes "@" ++ decimal slot)) (slot_json name slot)

-- where a receiver stands: at a place with a name, or in a slot, with the bits so far
abbrev pub at_place : List ℕ → PlainValue
at_place word = plain word (named_position_json word)

abbrev pub in_slot : ℕ → List Bool → PlainValue
in_slot slot bits = plain (slot_text slot bits) (slot_position_json slot bits)

-- devices, each after a space, with where they stand
abbrev pub stands : {X : Type 0} → (X → List ℕ) → (X → PlainValue) → List X → PlainValue
stands name position xs =
    plain (flat_map (λ x. placed_text (name x) (position x).word) xs) (listed (λ x. placed_json (name x) (position x).json) xs)

-- of each test whether it holds, each after a space
abbrev pub verdicts : List Bool → PlainValue
verdicts vs = plain (flat_map verdict_text vs) (listed switch_json vs)
