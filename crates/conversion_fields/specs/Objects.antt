-- What is said of an EDID as objects of JSON, one a line (own): an object for each part, and after it those of its fields.
use Rattle.std.specs.Prelude.{ℕ, ◌-◌, ◌/◌, ◌%◌, List, ◌++◌, codes}
use Rattle.std.specs.Fmt.{decimal}
use Rattle.std.specs.List.{flat_map}
use Rattle.text_core.specs.Piece.{hex_text}
use Rattle.record_core.specs.Strings.{string_text}
use Rattle.conversion_fields.specs.Said.{Said}

-- ---- a part: the number of the block of 128 bytes, its first byte in it, its bytes, its name, how many bytes are cut and left over

abbrev pub bytes_text : ℕ → ℕ → List ℕ → List ℕ
bytes_text number at bytes =
    codes "{\"type\":\"part\",\"block\":" ++ (decimal number ++ (codes ",\"byte\":" ++ (decimal at ++ (codes ",\"bytes\":\"" ++ (flat_map hex_text bytes ++ codes "\",\"name\":")))))

abbrev pub lengths_text : ℕ → ℕ → List ℕ
lengths_text cut left = codes ",\"cut\":" ++ (decimal cut ++ (codes ",\"left\":" ++ (decimal left ++ codes "}\n")))

unfoldable pub part_object : ℕ → ℕ → List ℕ → List ℕ → ℕ → ℕ → List ℕ
part_object number at bytes name cut left = bytes_text number at bytes ++ (string_text name ++ lengths_text cut left)

-- ---- a field: its byte in that block, its highest and its lowest bit

abbrev pub place_text : ℕ → ℕ → ℕ → ℕ → List ℕ
place_text number byte high low =
    codes "{\"type\":\"field\",\"block\":" ++ (decimal number ++ (codes ",\"byte\":" ++ (decimal byte ++ (codes ",\"high\":" ++ (decimal high ++ (codes ",\"low\":" ++ (decimal low ++ codes ",\"name\":")))))))

abbrev pub value_text : ℕ → List ℕ
value_text value = codes ",\"value\":" ++ (decimal value ++ codes ",\"meaning\":")

abbrev pub found_text : List ℕ → List ℕ
found_text found = codes ",\"found\":" ++ (found ++ codes "}\n")

unfoldable pub field_text : ℕ → ℕ → ℕ → ℕ → List ℕ → ℕ → List ℕ → List ℕ → List ℕ
field_text number byte high low name value meaning found =
    place_text number byte high low ++ (string_text name ++ (value_text value ++ (string_text meaning ++ found_text found)))

abbrev pub field_object : ℕ → Said → List ℕ
field_object number s = field_text number (s.at / 8) (7 - s.at % 8) (8 - s.at % 8 - s.width) s.name s.value s.meaning s.found

abbrev pub objects_text : ℕ → List Said → List ℕ
objects_text number said = flat_map (field_object number) said
