-- The fields of a block have all that its bytes have (own).
use Rattle.std.specs.Prelude.{ℕ, suc, zero, ◌-◌, ◌/◌, ◌%◌, ◌^◌, List, [], ◌∷◌, flat_map, slice_index}
use Rattle.edid_fields.specs.Forms.{Field}

-- a number as so many bits, the highest first
unfoldable pub binary : ℕ → ℕ → List ℕ
binary zero v = []
binary (suc w) v = v / (2 ^ w) % 2 ∷ binary w v

-- a bit of a block, the highest of byte 0 being 0
abbrev pub bit : List ℕ → ℕ → ℕ
bit p place = slice_index p (place / 8) / (2 ^ (7 - place % 8)) % 2

-- the values of fields as bits, in order
abbrev pub value_bits : List Field → List ℕ
value_bits fields = flat_map (λ f. binary f.width f.value) fields
