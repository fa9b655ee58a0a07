-- The records of a difference (own): the block, the number of the line in the text of the EDID that has it, and a line that is in one
-- alone, or a value of a line with both of its texts.
use Rattle.std.specs.Prelude.{ℕ, ◌==◌, if◌then◌else◌, List, [], ◌∷◌, ◌++◌, length, Some, None, codes}
use Rattle.std.specs.List.{flat_map}
use Rattle.edid_base.specs.declared.base.Base.{Base}
use Rattle.edid_cta.specs.declared.raw.Ext.{Ext}
use Rattle.edid_text_lines.specs.Text.{fields_text, word_text}
use Rattle.record_core.specs.Cells.{PlainCell, both, hidden, line_only}
use Rattle.record_core.specs.Records.{record_text}
use Rattle.record_core.specs.Values as values
use Rattle.record_core.specs.declared.cell.Form.{Form}
use Rattle.edid_difference.specs.Alignment.{Entry, aligned}
use Rattle.edid_difference.specs.Parts.{edid_parts}
use Rattle.edid_difference.specs.Values.{Change, changes, whole_text}
use Rattle.edid_difference.specs.declared.part.Part.{Part}

abbrev pub first_cells : ℕ → ℕ → List ℕ → List ℕ → List ℕ → List PlainCell
first_cells block number whole word fields =
    both (codes "block ") (codes "block") (values.number block) ∷ both (codes " line ") (codes "first_line") (values.number number)
    ∷ hidden (codes "second_line") values.nothing ∷ line_only (codes " - ") (values.string whole) ∷ hidden (codes "part") (values.text word)
    ∷ hidden (codes "field") values.nothing ∷ hidden (codes "first") (values.string fields) ∷ hidden (codes "second") values.nothing ∷ []

abbrev pub second_cells : ℕ → ℕ → List ℕ → List ℕ → List ℕ → List PlainCell
second_cells block number whole word fields =
    both (codes "block ") (codes "block") (values.number block) ∷ hidden (codes "first_line") values.nothing
    ∷ both (codes " line ") (codes "second_line") (values.number number) ∷ line_only (codes " + ") (values.string whole)
    ∷ hidden (codes "part") (values.text word) ∷ hidden (codes "field") values.nothing ∷ hidden (codes "first") values.nothing
    ∷ hidden (codes "second") (values.string fields) ∷ []

-- a value that is the only one of its line, and one with a name
abbrev pub only_cells : ℕ → ℕ → ℕ → List ℕ → List ℕ → List ℕ → List PlainCell
only_cells block number other word first second =
    both (codes "block ") (codes "block") (values.number block) ∷ both (codes " line ") (codes "first_line") (values.number number)
    ∷ hidden (codes "second_line") (values.number other) ∷ both (codes " ") (codes "part") (values.text word)
    ∷ hidden (codes "field") values.nothing
    ∷ both (codes " ") (codes "first") (values.string first) ∷ both (codes " | ") (codes "second") (values.string second) ∷ []

abbrev pub named_cells : ℕ → ℕ → ℕ → List ℕ → List ℕ → List ℕ → List ℕ → List PlainCell
named_cells block number other word name first second =
    both (codes "block ") (codes "block") (values.number block) ∷ both (codes " line ") (codes "first_line") (values.number number)
    ∷ hidden (codes "second_line") (values.number other) ∷ both (codes " ") (codes "part") (values.text word)
    ∷ both (codes " ") (codes "field") (values.text name)
    ∷ both (codes " ") (codes "first") (values.string first) ∷ both (codes " | ") (codes "second") (values.string second) ∷ []

abbrev pub change_cells : ℕ → ℕ → ℕ → List ℕ → Change → List PlainCell
change_cells block number other word c =
    if length c.name == 0 then only_cells block number other word c.first c.second
    else named_cells block number other word c.name c.first c.second

abbrev pub first_text : Form → Part → List ℕ
first_text form x =
    record_text form (codes "difference") (first_cells x.block x.number (word_text x.line.word ++ fields_text x.line.fields) (word_text x.line.word) (whole_text x.line.fields))

abbrev pub second_text : Form → Part → List ℕ
second_text form y =
    record_text form (codes "difference") (second_cells y.block y.number (word_text y.line.word ++ fields_text y.line.fields) (word_text y.line.word) (whole_text y.line.fields))

abbrev pub change_text : Form → ℕ → ℕ → ℕ → List ℕ → Change → List ℕ
change_text form block number other word c = record_text form (codes "difference") (change_cells block number other word c)

abbrev pub both_text : Form → Part → Part → List ℕ
both_text form x y = flat_map (change_text form x.block x.number y.number (word_text x.line.word)) (changes x.line.word x.line.fields y.line.fields)

abbrev pub entry_text : Form → Entry → List ℕ
entry_text form (Some x, Some y) = both_text form x y
entry_text form (Some x, None) = first_text form x
entry_text form (None, Some y) = second_text form y
entry_text form (None, None) = []

-- how the parts of two EDIDs differ
abbrev pub parts_difference : Form → List Part → List Part → List ℕ
parts_difference form xs ys = flat_map (entry_text form) (aligned xs ys)

-- THE difference of two EDIDs: nothing where they have the same bytes
abbrev pub difference_text : Form → Base → List Ext → Base → List Ext → List ℕ
difference_text form first first_extensions second second_extensions =
    parts_difference form (edid_parts first first_extensions) (edid_parts second second_extensions)
