-- What a table is made of (own). In the code each text and each list of a table stands behind a reference, and in a constant behind
-- another one; here there is none, so that both are one table.
use Rattle.std.specs.Prelude.{ℕ, List, map}
use Rattle.std.specs.Borrow.{Bor}
use Rattle.edid_fields.specs.declared.tables.Run.{Run}
use Rattle.edid_fields.specs.declared.tables.Size.{Size}
use Rattle.edid_fields.specs.declared.tables.Test.{Test}
use Rattle.edid_fields.specs.declared.tables.Times.{Times}
use Rattle.edid_fields.specs.declared.walking.Report.{Report}

-- the least and the greatest value, and what is said of them
abbrev pub Code : Type 0
Code = ℕ × ℕ × List ℕ

-- its bits, its name, its codes
abbrev pub Row : Type 0
Row = Run × List ℕ × List Code

-- the tests by which a part has this form, its size, its fields
abbrev pub Shape : Type 0
Shape = List Test × Size × List Row

-- how often it stands, and the forms that it may have
abbrev pub Part : Type 0
Part = Times × List Shape

-- a field of a block: its first bit, the highest of byte 0 being 0, how many bits it has, its value, its row
pub record Field : Type 0 where
  pub at : ℕ
  pub width : ℕ
  pub value : ℕ
  pub row : Row

-- ---- the same of the code

abbrev pub code_in_code : ℕ × ℕ × Bor (List ℕ) → Code
code_in_code c = (c.0, c.1, c.2.now)

abbrev pub RowInCode : Type 0
RowInCode = Run × Bor (List ℕ) × Bor (List (ℕ × ℕ × Bor (List ℕ)))

abbrev pub row_in_code : RowInCode → Row
row_in_code r = (r.0, r.1.now, map code_in_code r.2.now)

abbrev pub ShapeInCode : Type 0
ShapeInCode = Bor (List Test) × Size × Bor (List RowInCode)

abbrev pub shape_in_code : ShapeInCode → Shape
shape_in_code s = (s.0.now, s.1, map row_in_code s.2.now)

abbrev pub part_in_code : Times × Bor (List ShapeInCode) → Part
part_in_code p = (p.0, map shape_in_code p.1.now)

abbrev pub table_in_code : List (Times × Bor (List ShapeInCode)) → List Part
table_in_code parts = map part_in_code parts

abbrev pub field_in_code : Report → Field
field_in_code r = record { at = r.at; width = r.width; value = r.value; row = row_in_code r.row }

-- ---- the same of a constant

abbrev pub Cited : Type 0 → Type 0
Cited X = record { now : X }

abbrev pub code_in_constant : ℕ × ℕ × Cited (List ℕ) → Code
code_in_constant c = (c.0, c.1, c.2.now)

abbrev pub RowInConstant : Type 0
RowInConstant = Run × Cited (List ℕ) × Cited (List (ℕ × ℕ × Cited (List ℕ)))

abbrev pub row_in_constant : RowInConstant → Row
row_in_constant r = (r.0, r.1.now, map code_in_constant r.2.now)

abbrev pub ShapeInConstant : Type 0
ShapeInConstant = Cited (List Test) × Size × Cited (List RowInConstant)

abbrev pub shape_in_constant : ShapeInConstant → Shape
shape_in_constant s = (s.0.now, s.1, map row_in_constant s.2.now)

abbrev pub part_in_constant : Times × Cited (List ShapeInConstant) → Part
part_in_constant p = (p.0, map shape_in_constant p.1.now)

abbrev pub table_in_constant : Cited (List (Times × Cited (List ShapeInConstant))) → List Part
table_in_constant t = map part_in_constant t.now
