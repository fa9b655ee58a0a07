-- Cells and values by their texts (own): in the line, and in the object of JSON (RFC 8259).
use Rattle.std.specs.Prelude.{ℕ, ◌%◌, Bool, true, false, List, [], ◌∷◌, ◌++◌, Option, Some, None, codes}
use Rattle.std.specs.Fmt.{decimal}
use Rattle.std.specs.List.{flat_map}
use Rattle.text_core.specs.Piece.{hex_text, nibble_text, phys_text, piece_text}
use Rattle.text_core.specs.declared.piece.Piece.{Piece}
use Rattle.text_core.specs.declared.piece.Piece.TheVariants as piece
use Rattle.record_core.specs.Strings.{escaped_text, string_text, text_value}
use Rattle.record_core.specs.declared.cell.Cell.{Cell}
use Rattle.record_core.specs.declared.cell.Out.{Out}
use Rattle.record_core.specs.declared.cell.Part.{Part}
use Rattle.record_core.specs.declared.cell.Position.{Position}
use Rattle.record_core.specs.declared.cell.Position.TheVariants.{Named, Slot}
use Rattle.record_core.specs.declared.cell.Shown.{Shown}
use Rattle.record_core.specs.declared.cell.Shown.TheVariants as shown
use Rattle.record_core.specs.declared.cell.Stand.{Stand}
use Rattle.record_core.specs.declared.cell.Value.{Value}
use Rattle.record_core.specs.declared.cell.Value.TheVariants.{Nothing, One, String, Escaped, List as Listed, Parts, Outs, Stands, Verdicts}

-- ---- words of a line

abbrev pub rest_joined : {X : Type 0} → (X → List ℕ) → List ℕ → List X → List ℕ
rest_joined text sign xs = flat_map (λ y. sign ++ text y) xs

-- words with a sign between them, and a dash for none
abbrev pub joined : {X : Type 0} → (X → List ℕ) → List ℕ → List X → List ℕ
joined text sign [] = codes "-"
joined text sign (x ∷ xs) = text x ++ rest_joined text sign xs

abbrev pub part_text : Part → List ℕ
part_text p = piece_text p.piece

abbrev pub out_text : Out → List ℕ
out_text o = o.name.now ++ (codes "@" ++ decimal o.slot)

-- bits as digits, and a dash for none
abbrev pub bit_text : Bool → List ℕ
bit_text true = codes "1"
bit_text false = codes "0"

abbrev pub digits_text : List Bool → List ℕ
digits_text bits = flat_map bit_text bits

abbrev pub bits_text : List Bool → List ℕ
bits_text [] = codes "-"
bits_text (b ∷ bits) = digits_text (b ∷ bits)

abbrev pub slot_text : ℕ → List Bool → List ℕ
slot_text slot bits = (codes "slot:" ++ decimal slot) ++ (codes ":" ++ bits_text bits)

abbrev pub position_text : Position → List ℕ
position_text (Named word) = word.now
position_text (Slot slot bits) = slot_text slot bits.now

abbrev pub placed_text : List ℕ → List ℕ → List ℕ
placed_text name position = (codes " " ++ name) ++ (codes "=" ++ position)

abbrev pub stand_text : Stand → List ℕ
stand_text s = placed_text s.name.now (position_text s.position)

abbrev pub verdict_text : Bool → List ℕ
verdict_text true = codes " ok"
verdict_text false = codes " not-ok"

abbrev pub value_text : Value → List ℕ
value_text Nothing = []
value_text (One p) = piece_text p
value_text (String text) = text.now
value_text (Escaped text) = escaped_text text.now
value_text (Listed sign ps) = joined piece_text sign.now ps.now
value_text (Parts sign ps) = joined part_text sign.now ps.now
value_text (Outs os) = joined out_text (codes ",") os.now
value_text (Stands ss) = flat_map stand_text ss.now
value_text (Verdicts vs) = flat_map verdict_text vs.now

-- ---- values of an object

abbrev pub in_quotes : List ℕ → List ℕ
in_quotes text = codes "\"" ++ (text ++ codes "\"")

abbrev pub null_or : {T : Type 0} → (T → List ℕ) → Option T → List ℕ
null_or text None = codes "null"
null_or text (Some x) = text x

abbrev pub switch_json : Bool → List ℕ
switch_json true = codes "true"
switch_json false = codes "false"

abbrev pub bytes_json : List ℕ → List ℕ
bytes_json [] = codes "null"
bytes_json (x ∷ xs) = in_quotes (flat_map hex_text (x ∷ xs))

abbrev pub piece_json : Piece → List ℕ
piece_json (piece.Text t) = text_value t.now
piece_json (piece.Bytes bytes) = text_value bytes.now
piece_json (piece.Decimal n) = decimal n
piece_json (piece.Nibble n) = in_quotes (nibble_text (n % 16))
piece_json (piece.HexByte n) = in_quotes (hex_text n)
piece_json (piece.Hex bytes) = in_quotes (flat_map hex_text bytes.now)
piece_json (piece.HexOrDash bytes) = bytes_json bytes.now
piece_json (piece.Phys p) = in_quotes (phys_text p)
piece_json (piece.PhysOrDash o) = null_or (λ p. in_quotes (phys_text p)) o
piece_json (piece.Switch is_on) = switch_json is_on
piece_json (piece.DecimalOrDash o) = null_or decimal o
piece_json (piece.NibbleOrDash o) = null_or (λ n. in_quotes (nibble_text (n % 16))) o
piece_json (piece.HexByteOrDash o) = null_or (λ n. in_quotes (hex_text n)) o

-- in a list a text is a string, whatever it says
abbrev pub item_json : Piece → List ℕ
item_json (piece.Text t) = string_text t.now
item_json (piece.Bytes bytes) = string_text bytes.now
item_json p = piece_json p

abbrev pub rest_listed : {X : Type 0} → (X → List ℕ) → List X → List ℕ
rest_listed json xs = flat_map (λ y. codes "," ++ json y) xs

abbrev pub listed : {X : Type 0} → (X → List ℕ) → List X → List ℕ
listed json [] = codes "[]"
listed json (x ∷ xs) = codes "[" ++ (json x ++ (rest_listed json xs ++ codes "]"))

-- the fields of one object, and null where there are none
abbrev pub gathered : {X : Type 0} → (X → List ℕ) → List X → List ℕ
gathered json [] = codes "null"
gathered json (x ∷ xs) = codes "{" ++ (json x ++ (rest_listed json xs ++ codes "}"))

abbrev pub named_json : List ℕ → List ℕ → List ℕ
named_json name value = (codes "\"" ++ (name ++ codes "\":")) ++ value

abbrev pub part_json : Part → List ℕ
part_json p = named_json p.name.now (piece_json p.piece)

abbrev pub slot_json : List ℕ → ℕ → List ℕ
slot_json name slot = (codes "{\"device\":" ++ string_text name) ++ (codes ",\"slot\":" ++ (decimal slot ++ codes "}"))

abbrev pub out_json : Out → List ℕ
out_json o = slot_json o.name.now o.slot

abbrev pub bits_json : List Bool → List ℕ
bits_json [] = codes "null"
bits_json (b ∷ bits) = codes "\"" ++ (digits_text (b ∷ bits) ++ codes "\"")

-- `slot` and `bits` of a place outside of the slots are null
abbrev pub named_position_json : List ℕ → List ℕ
named_position_json word = codes ",\"position\":" ++ (string_text word ++ codes ",\"slot\":null,\"bits\":null}")

abbrev pub slot_position_json : ℕ → List Bool → List ℕ
slot_position_json slot bits = (codes ",\"position\":\"slot\",\"slot\":" ++ decimal slot) ++ (codes ",\"bits\":" ++ (bits_json bits ++ codes "}"))

abbrev pub position_json : Position → List ℕ
position_json (Named word) = named_position_json word.now
position_json (Slot slot bits) = slot_position_json slot bits.now

abbrev pub placed_json : List ℕ → List ℕ → List ℕ
placed_json name position = (codes "{\"device\":" ++ string_text name) ++ position

abbrev pub stand_json : Stand → List ℕ
stand_json s = placed_json s.name.now (position_json s.position)

abbrev pub value_json : Value → List ℕ
value_json Nothing = codes "null"
value_json (One p) = piece_json p
value_json (String text) = string_text text.now
value_json (Escaped text) = string_text text.now
value_json (Listed sign ps) = listed item_json ps.now
value_json (Parts sign ps) = gathered part_json ps.now
value_json (Outs os) = listed out_json os.now
value_json (Stands ss) = listed stand_json ss.now
value_json (Verdicts vs) = listed switch_json vs.now

-- ---- by these texts alone: what a definition says of a line in the place of its cells

-- a value by its word and by what the object has of it
pub record PlainValue : Type 0 where
  pub word : List ℕ
  pub json : List ℕ

pub record PlainCell : Type 0 where
  pub lead : List ℕ
  pub shown : Shown
  pub name : List ℕ
  pub value : PlainValue

abbrev pub value_of : Value → PlainValue
value_of v = record { word = value_text v; json = value_json v }

abbrev pub plain_of : Cell → PlainCell
plain_of c = record { lead = c.lead.now; shown = c.shown; name = c.name.now; value = value_of c.value }

-- a word of the line, after what stands before it there, and a field of the object
abbrev pub both : List ℕ → List ℕ → PlainValue → PlainCell
both lead name value = record { lead = lead; shown = shown.Both; name = name; value = value }

-- a field of the object alone
abbrev pub hidden : List ℕ → PlainValue → PlainCell
hidden name value = record { lead = []; shown = shown.Object; name = name; value = value }

-- a word of the line alone
abbrev pub line_only : List ℕ → PlainValue → PlainCell
line_only lead value = record { lead = lead; shown = shown.Line; name = []; value = value }
