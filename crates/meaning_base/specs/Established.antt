-- What the established timings mean (E-EDID Release A, section 3.8).
use Rattle.std.specs.Prelude.{ℕ, ◌+◌, ◌*◌, ◌%◌, ◌==◌, if◌then◌else◌, List, [], ◌∷◌, ◌++◌, slice_index, codes}
use Rattle.hex.specs.Hex.{encode_lower}
use Rattle.meaning_words.specs.Notes.{Row, row, set_lines}

abbrev pub established_rows : List Row
established_rows =
    row 8388608 (codes "720x400 at 70 Hz") ∷
    row 4194304 (codes "720x400 at 88 Hz") ∷
    row 2097152 (codes "640x480 at 60 Hz") ∷
    row 1048576 (codes "640x480 at 67 Hz") ∷
    row 524288 (codes "640x480 at 72 Hz") ∷
    row 262144 (codes "640x480 at 75 Hz") ∷
    row 131072 (codes "800x600 at 56 Hz") ∷
    row 65536 (codes "800x600 at 60 Hz") ∷
    row 32768 (codes "800x600 at 72 Hz") ∷
    row 16384 (codes "800x600 at 75 Hz") ∷
    row 8192 (codes "832x624 at 75 Hz") ∷
    row 4096 (codes "1024x768i at 87 Hz") ∷
    row 2048 (codes "1024x768 at 60 Hz") ∷
    row 1024 (codes "1024x768 at 70 Hz") ∷
    row 512 (codes "1024x768 at 75 Hz") ∷
    row 256 (codes "1280x1024 at 75 Hz") ∷
    row 128 (codes "1152x870 at 75 Hz") ∷ []

-- three bytes, the highest first
abbrev pub established_bits : List ℕ → ℕ
established_bits bytes = slice_index bytes 0 * 65536 + slice_index bytes 1 * 256 + slice_index bytes 2

unfoldable pub own_text : ℕ → List ℕ
own_text bits = codes "of the maker's own: " ++ encode_lower (bits ∷ [])

-- the low seven bits are the maker's own
abbrev pub own_meanings : ℕ → List (List ℕ)
own_meanings bits = if bits == 0 then [] else own_text bits ∷ []

-- a line for each timing
unfoldable pub established_meanings : List ℕ → List (List ℕ)
established_meanings bytes = set_lines established_rows (established_bits bytes) ++ own_meanings (slice_index bytes 2 % 128)
