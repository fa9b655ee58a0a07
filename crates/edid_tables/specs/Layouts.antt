-- Which table a data block has (CTA-861-H, tables 55 and 56), and what its fields are found to be (own).
use Rattle.std.specs.Prelude.{ℕ, ◌==◌, ◌&&◌, nat_le, Bool, true, false, Option, List, [], ◌∷◌, map, find, drop, length}
use Rattle.std.specs.Borrow.{Bor}
use Rattle.std.specs.List.{list_all}
use Rattle.edid_cta.specs.Block.{kind_number}
use Rattle.edid_cta.specs.declared.block.DataBlock.{DataBlock}
use Rattle.edid_fields.specs.Fields.{chosen, end_of}
use Rattle.edid_fields.specs.Forms.{Cited}
use Rattle.edid_fields.specs.Words.{some_reserved}
use Rattle.edid_fields.specs.Words as words
use Rattle.edid_tables.specs.Tables.{parts_of}
use Rattle.edid_tables.specs.declared.layouts.Table.{Table}
use Rattle.edid_tables.specs.declared.layouts.TheConstants.{LAYOUTS}

-- a tag, the bytes that the payload begins with, and the table of those after them
abbrev pub Layout : Type 0
Layout = ℕ × List ℕ × Table

abbrev pub layout_in_code : ℕ × Bor (List ℕ) × Table → Layout
layout_in_code l = (l.0, l.1.now, l.2)

abbrev pub layout_in_constant : ℕ × Cited (List ℕ) × Table → Layout
layout_in_constant l = (l.0, l.1.now, l.2)

-- the blocks that have a table
unfoldable pub layouts : List Layout
layouts = map layout_in_constant LAYOUTS.now

-- what the payload begins with is at most a payload
abbrev pub are_short : List Layout → Bool
are_short list = list_all (λ l. nat_le (length l.1) 31) list

unfoldable pub begins_with : List ℕ → List ℕ → Bool
begins_with [] payload = true
begins_with (b ∷ front) [] = false
begins_with (b ∷ front) (c ∷ payload) = (b == c) && begins_with front payload

abbrev pub fits : DataBlock → Layout → Bool
fits b l = (l.0 == kind_number b.kind) && begins_with l.1 b.payload.items

abbrev pub layout_of : DataBlock → Option Layout
layout_of b = find (fits b) layouts

abbrev pub body_of : DataBlock → Layout → List ℕ
body_of b l = drop (length l.1) b.payload.items

-- ---- what is found of a data block; of one without a table nothing is

abbrev pub has_reserved : DataBlock → Bool
has_reserved b = chosen (layout_of b) false (λ l. some_reserved (parts_of l.2) (body_of b l))

abbrev pub cut_of : DataBlock → ℕ
cut_of b = chosen (layout_of b) 0 (λ l. words.cut_of (body_of b l) (end_of (parts_of l.2) (body_of b l)))

abbrev pub left_of : DataBlock → ℕ
left_of b = chosen (layout_of b) 0 (λ l. words.left_of (body_of b l) (end_of (parts_of l.2) (body_of b l)))
