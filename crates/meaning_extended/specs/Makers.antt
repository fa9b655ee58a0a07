-- Makers by the three bytes of their identifier, the lowest first (IEEE RA, MA-L; the names that the blocks go by: own).
use Rattle.std.specs.Prelude.{ℕ, ◌==◌, if◌then◌else◌, List, [], ◌∷◌, ◌++◌, drop, codes}
use Rattle.meaning_words.specs.Notes.{below, rest_words}

-- a vendor block of a maker
abbrev pub maker_name : ℕ → List ℕ
maker_name id =
    if id == 0x00044b then codes ", NVIDIA"
    else if id == 0x000c6e then codes ", ASUS"
    else if id == 0x0010fa then codes ", Apple"
    else if id == 0x0014b9 then codes ", MStar"
    else if id == 0x00d046 then codes ", Dolby"
    else if id == 0x00e047 then codes ", InFocus"
    else []

-- what an extended block is for, by its tag, where its bytes are not read (CTA-861-G, table 56; 8: CTA-861-I)
abbrev pub tag_name : ℕ → List ℕ
tag_name tag =
    if tag == 0x02 then codes ", VESA display device"
    else if tag == 0x03 then codes ", VESA video timings"
    else if tag == 0x07 then codes ", dynamic HDR metadata"
    else if tag == 0x08 then codes ", native video resolution"
    else if tag == 0x12 then codes ", HDMI audio"
    else if tag == 0x13 then codes ", room configuration"
    else if tag == 0x14 then codes ", speaker locations"
    else if tag == 0x20 then codes ", InfoFrames"
    else []

-- the name, and the bytes in hex
abbrev pub labelled_meanings : List ℕ → List ℕ → List (List ℕ)
labelled_meanings [] p = []
labelled_meanings (c ∷ name) p = below ((c ∷ name) ++ rest_words p)

-- the name, and the bytes after the identifier in hex
abbrev pub named_meanings : List ℕ → List ℕ → List (List ℕ)
named_meanings [] p = []
named_meanings (c ∷ name) p = below ((c ∷ name) ++ rest_words (drop 3 p))
