-- Each bit of a block stands in one field, or is left over (own).
use Rattle.std.specs.Prelude.{ℕ, suc, zero, ◌*◌, ◌-◌, List, [], ◌∷◌, length, flat_map}
use Rattle.edid_fields.specs.Fields.{end_of}
use Rattle.edid_fields.specs.Forms.{Field, Part}

-- so many numbers from one on
unfoldable pub count : ℕ → ℕ → List ℕ
count from zero = []
count from (suc n) = from ∷ count (suc from) n

abbrev pub covered_by : Field → List ℕ
covered_by f = count f.at f.width

-- the bits of fields, in order
abbrev pub covered : List Field → List ℕ
covered fields = flat_map covered_by fields

-- the bits that are left over
abbrev pub left_bits : List Part → List ℕ → List ℕ
left_bits table p = count (8 * (end_of table p).at) (8 * length p - 8 * (end_of table p).at)

-- the bits of a block, the highest of byte 0 being 0
abbrev pub all_bits : List ℕ → List ℕ
all_bits p = count 0 (8 * length p)
