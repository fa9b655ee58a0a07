-- The fields of a block of bytes, by a table (own; which they are is in the tables of the crates above).
use Rattle.std.specs.Prelude.{ℕ, suc, zero, ◌+◌, ◌-◌, ◌*◌, ◌/◌, ◌%◌, ◌^◌, ◌==◌, ◌&&◌, nat_le, nat_lt, Bool, true, false, if◌then◌else◌, Option, Some, None, List, [], ◌∷◌, ◌++◌, length, drop, slice_index}
use Rattle.std.specs.List.{list_all}
use Rattle.edid_fields.specs.Forms.{Field, Part, Row, Shape}
use Rattle.edid_fields.specs.declared.tables.Asked.{Asked}
use Rattle.edid_fields.specs.declared.tables.Asked.TheVariants.{Value, Length}
use Rattle.edid_fields.specs.declared.tables.Bits.{Bits}
use Rattle.edid_fields.specs.declared.tables.Test.{Test}
use Rattle.edid_fields.specs.declared.tables.Times.{Times}
use Rattle.edid_fields.specs.declared.tables.Times.TheVariants.{Once, Counted, Within, ToEnd}
use Rattle.edid_fields.specs.declared.walking.Place.{Place}

-- ---- which tables are tables: a check that can be run

abbrev pub is_run : ℕ → ℕ → Bool
is_run high low = nat_le low high && nat_le high 7

abbrev pub is_bits : Bits → Bool
is_bits b = is_run b.high b.low

abbrev pub is_asked : Asked → Bool
is_asked (Value b) = is_bits b
is_asked Length = true

abbrev pub are_tests : List Test → Bool
are_tests tests = list_all (λ t. is_asked t.asked) tests

-- the rows stand one after the other, from one bit to another
unfoldable pub is_tiled : ℕ → List Row → ℕ → Bool
is_tiled b [] e = b == e
is_tiled b (r ∷ rows) e = (8 * r.0.byte + (7 - r.0.high) == b) && is_tiled (8 * r.0.byte + (8 - r.0.low)) rows e

abbrev pub are_rows : List Row → Bool
are_rows rows = list_all (λ r. is_run r.0.high r.0.low) rows

abbrev pub is_shape : Shape → Bool
is_shape s = are_tests s.0 && (are_rows s.2 && (is_tiled 0 s.2 (8 * s.1.bytes) && (nat_le s.1.least s.1.bytes && nat_le s.1.bytes 255)))

abbrev pub are_shapes : List Shape → Bool
are_shapes shapes = list_all is_shape shapes

abbrev pub are_times : Times → Bool
are_times Once = true
are_times (Counted b) = is_bits b
are_times (Within b less) = is_bits b
are_times ToEnd = true

abbrev pub is_part : Part → Bool
is_part p = are_times p.0 && are_shapes p.1

abbrev pub are_parts : List Part → Bool
are_parts parts = list_all is_part parts

-- a table has at most 16 parts
abbrev pub is_table : List Part → Bool
is_table parts = nat_le (length parts) 16 && are_parts parts

-- ---- values

abbrev pub bits_of : ℕ → ℕ → ℕ → ℕ
bits_of byte high low = byte / (2 ^ low) % (2 ^ (high - low + 1))

-- where a part begins, by the starts of those before it and the place of its own
abbrev pub start_of : List ℕ → ℕ → ℕ → ℕ
start_of starts own part = if nat_lt part (length starts) then slice_index starts part else own

-- a byte past the end is 0
abbrev pub value_at : List ℕ → List ℕ → ℕ → Bits → ℕ
value_at p starts own b = bits_of (slice_index (drop (start_of starts own b.part) p) b.byte) b.high b.low

abbrev pub asked_of : List ℕ → List ℕ → ℕ → Asked → ℕ
asked_of p starts own (Value b) = value_at p starts own b
asked_of p starts own Length = length p

abbrev pub passes_one : List ℕ → List ℕ → ℕ → Test → Bool
passes_one p starts own t = nat_le t.least (asked_of p starts own t.asked) && nat_le (asked_of p starts own t.asked) t.greatest

abbrev pub passes : List ℕ → List ℕ → ℕ → List Test → Bool
passes p starts own tests = list_all (passes_one p starts own) tests

-- the first form whose tests pass
unfoldable pub shape_of : List ℕ → List ℕ → ℕ → List Shape → Option Shape
shape_of p starts own [] = None
shape_of p starts own (s ∷ shapes) = if passes p starts own s.0 then Some s else shape_of p starts own shapes

-- ---- the walk

abbrev pub field_of : List ℕ → ℕ → Row → Field
field_of p at r = record {
  at = 8 * (at + r.0.byte) + (7 - r.0.high);
  width = r.0.high - r.0.low + 1;
  value = bits_of (slice_index p (at + r.0.byte)) r.0.high r.0.low;
  row = r;
}

-- the rows of a part that begins at a byte, as far as there are bytes
unfoldable pub rows_at : List ℕ → ℕ → List Row → List Field
rows_at p at [] = []
rows_at p at (r ∷ rows) = if nat_lt r.0.byte (length p - at) then field_of p at r ∷ rows_at p at rows else []

abbrev pub after_shape : List ℕ → Place → Shape → Place
after_shape p w s = record {
  at = (if nat_lt (w.at + s.1.bytes) (length p) then w.at + s.1.bytes else length p);
  need = (if nat_lt w.need (w.at + s.1.least) then w.at + s.1.least else w.need);
}

-- a part that repeats ends at the end of the block, or of its own bytes
abbrev pub is_past : Option ℕ → ℕ → Bool
is_past None at = false
is_past (Some stop) at = nat_le stop at

abbrev pub next_shape : Option ℕ → List ℕ → List ℕ → ℕ → List Shape → Option Shape
next_shape stop p starts at shapes = if is_past stop at then None else shape_of p starts at shapes

abbrev pub chosen : {A : Type 0} {B : Type 0} → Option A → B → (A → B) → B
chosen None none some = none
chosen (Some a) none some = some a

-- the fields of so many copies of a part at most
unfoldable pub copies : ℕ → Option ℕ → List ℕ → List ℕ → List Shape → Place → List Field
copies zero stop p starts shapes w = []
copies (suc n) stop p starts shapes w =
    chosen (next_shape stop p starts w.at shapes) [] (λ s. rows_at p w.at s.2 ++ copies n stop p starts shapes (after_shape p w s))

-- where they end
unfoldable pub copies_end : ℕ → Option ℕ → List ℕ → List ℕ → List Shape → Place → Place
copies_end zero stop p starts shapes w = w
copies_end (suc n) stop p starts shapes w =
    chosen (next_shape stop p starts w.at shapes) w (λ s. copies_end n stop p starts shapes (after_shape p w s))

abbrev pub times_of : List ℕ → List ℕ → ℕ → Times → ℕ
times_of p starts at Once = 1
times_of p starts at (Counted b) = value_at p starts at b
times_of p starts at (Within b less) = value_at p starts at b
times_of p starts at ToEnd = length p

abbrev pub stop_of : List ℕ → List ℕ → ℕ → Times → Option ℕ
stop_of p starts at Once = None
stop_of p starts at (Counted b) = None
stop_of p starts at (Within b less) = Some (at + (value_at p starts at b - less))
stop_of p starts at ToEnd = Some (length p)

abbrev pub part_fields : List ℕ → List ℕ → Place → Part → List Field
part_fields p starts w part = copies (times_of p starts w.at part.0) (stop_of p starts w.at part.0) p starts part.1 w

abbrev pub part_end : List ℕ → List ℕ → Place → Part → Place
part_end p starts w part = copies_end (times_of p starts w.at part.0) (stop_of p starts w.at part.0) p starts part.1 w

-- where a part began; an absent one is past the end, so that its bytes are 0
abbrev pub began : List ℕ → Place → Place → ℕ
began p old new = if old.at == new.at then length p else old.at

unfoldable pub parts_at : List ℕ → List ℕ → Place → List Part → List Field
parts_at p starts w [] = []
parts_at p starts w (part ∷ parts) =
    part_fields p starts w part ++ parts_at p (starts ++ (began p w (part_end p starts w part) ∷ [])) (part_end p starts w part) parts

unfoldable pub parts_end : List ℕ → List ℕ → Place → List Part → Place
parts_end p starts w [] = w
parts_end p starts w (part ∷ parts) = parts_end p (starts ++ (began p w (part_end p starts w part) ∷ [])) (part_end p starts w part) parts

abbrev pub at_first : Place
at_first = record { at = 0; need = 0 }

-- the fields of a block, and where they end
abbrev pub fields_of : List Part → List ℕ → List Field
fields_of table p = parts_at p [] at_first table

abbrev pub end_of : List Part → List ℕ → Place
end_of table p = parts_end p [] at_first table
