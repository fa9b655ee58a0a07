-- What is said of the bits of a part of an EDID (own).
use Rattle.std.specs.Prelude.{ℕ, ◌+◌, ◌*◌, Bool, true, false, List, [], ◌∷◌, ◌++◌, codes, drop, map, flat_map}
use Rattle.edid_fields.specs.Fields.{end_of, fields_of}
use Rattle.edid_fields.specs.Forms.{Field, Part}
use Rattle.edid_fields.specs.Tiling.{count}
use Rattle.edid_fields.specs.Words.{is_reserved, word_of}

-- where some bits stand in a block of 128 bytes, the highest of byte 0 being 0, how many, their name, their value, what it says, and
-- what is found of it, as a value of JSON
pub record Said : Type 0 where
  pub at : ℕ
  pub width : ℕ
  pub name : List ℕ
  pub value : ℕ
  pub meaning : List ℕ
  pub found : List ℕ

abbrev pub found_of : Bool → List ℕ
found_of true = codes "\"reserved\""
found_of false = codes "null"

-- a field of a table, of bytes that begin at one of the block
abbrev pub said_of : ℕ → Field → Said
said_of start f = record {
  at = 8 * start + f.at;
  width = f.width;
  name = f.row.1;
  value = f.value;
  meaning = word_of f;
  found = found_of (is_reserved f);
}

-- a byte that has no field, by its name and by what is found of it
abbrev pub byte_said : List ℕ → List ℕ → ℕ → ℕ → Said
byte_said name found at byte = record { at = 8 * at; width = 8; name = name; value = byte; meaning = []; found = found }

unfoldable pub bytes_said : List ℕ → List ℕ → ℕ → List ℕ → List Said
bytes_said name found at [] = []
bytes_said name found at (byte ∷ bytes) = byte_said name found at byte ∷ bytes_said name found (at + 1) bytes

-- those that stand after all fields, and those that have no table
abbrev pub left_said : ℕ → List ℕ → List Said
left_said at bytes = bytes_said (codes "left over") (codes "\"left\"") at bytes

abbrev pub plain_said : List ℕ → ℕ → List ℕ → List Said
plain_said name at bytes = bytes_said name (codes "null") at bytes

-- what a table says of bytes, as far as it goes, and of all of them
abbrev pub front_said : ℕ → List Part → List ℕ → List Said
front_said start table p = map (said_of start) (fields_of table p)

abbrev pub end_in : List Part → List ℕ → ℕ
end_in table p = (end_of table p).at

abbrev pub all_said : ℕ → List Part → List ℕ → List Said
all_said start table p = front_said start table p ++ left_said (start + end_in table p) (drop (end_in table p) p)

-- ---- their bits

abbrev pub bits_of : Said → List ℕ
bits_of s = count s.at s.width

abbrev pub said_bits : List Said → List ℕ
said_bits said = flat_map bits_of said
