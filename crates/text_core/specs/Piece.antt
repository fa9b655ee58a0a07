-- What the parts of a line read.
use Rattle.std.specs.Prelude.{ℕ, ◌+◌, ◌/◌, ◌%◌, nat_lt, Bool, true, false, if◌then◌else◌, List, [], ◌∷◌, ◌++◌, Option, Some, None, codes}
use Rattle.std.specs.Fmt.{decimal}
use Rattle.std.specs.List.{flat_map}
use Rattle.text_core.specs.declared.phys.Phys.{Phys as PhysAddress}
use Rattle.text_core.specs.declared.piece.Piece.{Piece}
use Rattle.text_core.specs.declared.piece.Piece.TheVariants.{Text, Bytes, Decimal, Nibble, HexByte, Hex, HexOrDash, Phys, PhysOrDash, Switch, DecimalOrDash, NibbleOrDash, HexByteOrDash}

-- a hex digit, lower case
abbrev pub nibble_text : ℕ → List ℕ
nibble_text n = (if nat_lt n 10 then 48 + n else 87 + n) ∷ []

-- a byte as two hex digits
abbrev pub hex_text : ℕ → List ℕ
hex_text n = nibble_text (n / 16) ++ nibble_text (n % 16)

-- a physical address: four hex digits with dots
abbrev pub phys_text : PhysAddress → List ℕ
phys_text p = nibble_text (p.high / 16) ++ codes "." ++ nibble_text (p.high % 16) ++ codes "." ++ nibble_text (p.low / 16) ++ codes "." ++ nibble_text (p.low % 16)

-- the text of a value that is there, and else a dash
abbrev pub dash_or : {T : Type 0} → (T → List ℕ) → Option T → List ℕ
dash_or text None = codes "-"
dash_or text (Some x) = text x

-- Two hex digits for each byte, and a dash for none. A line of an EDID's text has the same by another definition, which goes by
-- the laws of the library that reads hex back.
abbrev pub hex_or_dash : List ℕ → List ℕ
hex_or_dash [] = codes "-"
hex_or_dash (x ∷ xs) = flat_map hex_text (x ∷ xs)

abbrev pub switch_text : Bool → List ℕ
switch_text true = codes "on"
switch_text false = codes "off"

-- what a part of a line reads
abbrev pub piece_text : Piece → List ℕ
piece_text (Text t) = t.now
piece_text (Bytes bytes) = bytes.now
piece_text (Decimal n) = decimal n
piece_text (Nibble n) = nibble_text (n % 16)
piece_text (HexByte n) = hex_text n
piece_text (Hex bytes) = flat_map hex_text bytes.now
piece_text (HexOrDash bytes) = hex_or_dash bytes.now
piece_text (Phys p) = phys_text p
piece_text (PhysOrDash o) = dash_or phys_text o
piece_text (Switch is_on) = switch_text is_on
piece_text (DecimalOrDash o) = dash_or decimal o
piece_text (NibbleOrDash o) = dash_or (λ n. nibble_text (n % 16)) o
piece_text (HexByteOrDash o) = dash_or hex_text o
