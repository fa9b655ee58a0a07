-- What is said of a part of an EDID (own): its first byte in its block of 128 bytes, its bytes, its name, how many bytes it has too few,
-- how many are left over, and what is said of its bits.
use Rattle.std.specs.Prelude.{◌≡◌, ℕ, ◌*◌, List, ◌++◌, flat_map, length}
use Rattle.edid_fields.specs.Tiling.{count}
use Rattle.conversion_fields.specs.Objects.{objects_text, part_object}
use Rattle.conversion_fields.specs.Said.{Said, said_bits}

pub record PartSaid : Type 0 where
  pub at : ℕ
  pub bytes : List ℕ
  pub name : List ℕ
  pub cut : ℕ
  pub left : ℕ
  pub fields : List Said

-- its object and those of its fields, where it stands in the block of that number
unfoldable pub part_text : ℕ → PartSaid → List ℕ
part_text number p = part_object number p.at p.bytes p.name p.cut p.left ++ objects_text number p.fields

abbrev pub parts_text : ℕ → List PartSaid → List ℕ
parts_text number parts = flat_map (part_text number) parts

-- the bytes and the bits of parts, in order
abbrev pub bytes_in : PartSaid → List ℕ
bytes_in p = p.bytes

abbrev pub bits_in : PartSaid → List ℕ
bits_in p = said_bits p.fields

abbrev pub parts_bytes : List PartSaid → List ℕ
parts_bytes parts = flat_map bytes_in parts

abbrev pub parts_bits : List PartSaid → List ℕ
parts_bits parts = flat_map bits_in parts

-- parts that begin at a byte have these bytes, in order, and each of their bits stands in one field, in order
abbrev pub Tiled : ℕ → List PartSaid → List ℕ → Type 0
Tiled at parts bytes = (parts_bytes parts ≡ bytes) × (parts_bits parts ≡ count (8 * at) (8 * length bytes))
