-- Records: the line of plain cells, and their object.
use Rattle.std.specs.Prelude.{◌≡◌, ℕ, Bool, true, false, List, [], ◌∷◌, ◌++◌, codes}
use Rattle.std.specs.List.{concat, flat_map}
use Rattle.record_core.specs.Cells.{PlainCell, named_json}
use Rattle.record_core.specs.Strings.{char_text}
use Rattle.record_core.specs.declared.cell.Form.{Form}
use Rattle.record_core.specs.declared.cell.Form.TheVariants.{Text, Json}
use Rattle.record_core.specs.declared.cell.Shown.{Shown}
use Rattle.record_core.specs.declared.cell.Shown.TheVariants as shown

-- ---- in a line

abbrev pub shown_text : Shown → List ℕ → List ℕ
shown_text shown.Object word = []
shown_text _ word = word

abbrev pub word_text : PlainCell → List ℕ
word_text c = c.lead ++ shown_text c.shown c.value.word

-- what the line says, without its end
abbrev pub said : List PlainCell → List ℕ
said cells = flat_map word_text cells

abbrev pub line_of : List PlainCell → List ℕ
line_of cells = said cells ++ codes "\n"

-- the same in parts: before each word what stands before it, and the end
abbrev pub line_parts : List PlainCell → List (List ℕ)
line_parts [] = codes "\n" ∷ []
line_parts (c ∷ cells) = c.lead ∷ shown_text c.shown c.value.word ∷ line_parts cells

abbrev pub LinesHaveParts : Type 0
LinesHaveParts = (cells : List PlainCell) → line_of cells ≡ concat (line_parts cells)

-- words as they stand, or as a string has them
abbrev pub as_text : Bool → List ℕ → List ℕ
as_text true text = flat_map char_text text
as_text false text = text

-- ---- in an object

abbrev pub shown_json : Shown → List ℕ → List ℕ → List ℕ
shown_json shown.Line name value = []
shown_json _ name value = codes "," ++ named_json name value

abbrev pub field_text : PlainCell → List ℕ
field_text c = shown_json c.shown c.name c.value.json

-- what the object of a line has after the line
abbrev pub reported : List ℕ → List PlainCell → List ℕ
reported kind cells = (codes "\",\"type\":\"" ++ (kind ++ codes "\"")) ++ (flat_map field_text cells ++ codes "}\n")

abbrev pub object_of : List ℕ → List PlainCell → List ℕ
object_of kind cells = codes "{\"line\":\"" ++ (flat_map char_text (said cells) ++ reported kind cells)

-- ---- either

-- THE text of a line of a kind
abbrev pub record_text : Form → List ℕ → List PlainCell → List ℕ
record_text Text kind cells = line_of cells
record_text Json kind cells = object_of kind cells
