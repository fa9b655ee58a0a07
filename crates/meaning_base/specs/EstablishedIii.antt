-- What the descriptor of established timings III means (E-EDID Release A2, section 3.10.3.9), of its 18 bytes.
use Rattle.std.specs.Prelude.{ℕ, ◌+◌, ◌*◌, List, [], ◌∷◌, ◌++◌, slice_index, codes}
use Rattle.meaning_words.specs.Notes.{Row as BitRow, row as bit, set_lines}
use Rattle.meaning_fields.specs.Fields.{Row, row, number, hex, block_meanings}

-- bytes 7 to 9, the highest bit first
abbrev pub first_rows : List BitRow
first_rows =
    bit 8388608 (codes "640x350 at 85 Hz") ∷
    bit 4194304 (codes "640x400 at 85 Hz") ∷
    bit 2097152 (codes "720x400 at 85 Hz") ∷
    bit 1048576 (codes "640x480 at 85 Hz") ∷
    bit 524288 (codes "848x480 at 60 Hz") ∷
    bit 262144 (codes "800x600 at 85 Hz") ∷
    bit 131072 (codes "1024x768 at 85 Hz") ∷
    bit 65536 (codes "1152x864 at 75 Hz") ∷
    bit 32768 (codes "1280x768 at 60 Hz, reduced blanking") ∷
    bit 16384 (codes "1280x768 at 60 Hz") ∷
    bit 8192 (codes "1280x768 at 75 Hz") ∷
    bit 4096 (codes "1280x768 at 85 Hz") ∷
    bit 2048 (codes "1280x960 at 60 Hz") ∷
    bit 1024 (codes "1280x960 at 85 Hz") ∷
    bit 512 (codes "1280x1024 at 60 Hz") ∷
    bit 256 (codes "1280x1024 at 85 Hz") ∷
    bit 128 (codes "1360x768 at 60 Hz") ∷
    bit 64 (codes "1440x900 at 60 Hz, reduced blanking") ∷
    bit 32 (codes "1440x900 at 60 Hz") ∷
    bit 16 (codes "1440x900 at 75 Hz") ∷
    bit 8 (codes "1440x900 at 85 Hz") ∷
    bit 4 (codes "1400x1050 at 60 Hz, reduced blanking") ∷
    bit 2 (codes "1400x1050 at 60 Hz") ∷
    bit 1 (codes "1400x1050 at 75 Hz") ∷ []

-- bytes 10 to 12
abbrev pub second_rows : List BitRow
second_rows =
    bit 8388608 (codes "1400x1050 at 85 Hz") ∷
    bit 4194304 (codes "1680x1050 at 60 Hz, reduced blanking") ∷
    bit 2097152 (codes "1680x1050 at 60 Hz") ∷
    bit 1048576 (codes "1680x1050 at 75 Hz") ∷
    bit 524288 (codes "1680x1050 at 85 Hz") ∷
    bit 262144 (codes "1600x1200 at 60 Hz") ∷
    bit 131072 (codes "1600x1200 at 65 Hz") ∷
    bit 65536 (codes "1600x1200 at 70 Hz") ∷
    bit 32768 (codes "1600x1200 at 75 Hz") ∷
    bit 16384 (codes "1600x1200 at 85 Hz") ∷
    bit 8192 (codes "1792x1344 at 60 Hz") ∷
    bit 4096 (codes "1792x1344 at 75 Hz") ∷
    bit 2048 (codes "1856x1392 at 60 Hz") ∷
    bit 1024 (codes "1856x1392 at 75 Hz") ∷
    bit 512 (codes "1920x1200 at 60 Hz, reduced blanking") ∷
    bit 256 (codes "1920x1200 at 60 Hz") ∷
    bit 128 (codes "1920x1200 at 75 Hz") ∷
    bit 64 (codes "1920x1200 at 85 Hz") ∷
    bit 32 (codes "1920x1440 at 60 Hz") ∷
    bit 16 (codes "1920x1440 at 75 Hz") ∷
    bit 8 (codes "reserved timing 3") ∷
    bit 4 (codes "reserved timing 2") ∷
    bit 2 (codes "reserved timing 1") ∷
    bit 1 (codes "reserved timing 0") ∷ []

-- three bytes from a place on, the highest first
abbrev pub three_bytes : List ℕ → ℕ → ℕ
three_bytes p place = slice_index p place * 65536 + slice_index p (place + 1) * 256 + slice_index p (place + 2)

-- the revision, and bytes that are to be 0
abbrev pub spare_rows : List Row
spare_rows =
    row 4 1 1 256 (hex (codes ", byte 5 is ") 1) ∷
    row 5 1 1 256 (number (codes ", revision ") 1 0 []) ∷
    row 12 1 1 256 (hex (codes ", byte 13 is ") 1) ∷
    row 13 1 1 256 (hex (codes ", byte 14 is ") 1) ∷
    row 14 1 1 256 (hex (codes ", byte 15 is ") 1) ∷
    row 15 1 1 256 (hex (codes ", byte 16 is ") 1) ∷
    row 16 1 1 256 (hex (codes ", byte 17 is ") 1) ∷
    row 17 1 1 256 (hex (codes ", byte 18 is ") 1) ∷ []

abbrev pub first_lines : List ℕ → List (List ℕ)
first_lines p = set_lines first_rows (three_bytes p 6)

abbrev pub second_lines : List ℕ → List (List ℕ)
second_lines p = set_lines second_rows (three_bytes p 9)

abbrev pub spare_lines : List ℕ → List (List ℕ)
spare_lines p = block_meanings [] spare_rows 18 p

abbrev pub established_meanings : List ℕ → List (List ℕ)
established_meanings p = spare_lines p ++ (first_lines p ++ second_lines p)
