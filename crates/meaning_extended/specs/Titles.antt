-- What an extended block is called above what its bytes mean, and makers without a known name (CTA-861-I, table 56; own).
use Rattle.std.specs.Prelude.{ℕ, ◌==◌, ◌||◌, nat_lt, Bool, if◌then◌else◌, List, [], ◌∷◌, ◌++◌, codes, drop, length, slice_index}
use Rattle.hex.specs.Hex.{encode_lower}
use Rattle.meaning_words.specs.Notes.{below, rest_words}

-- by the extended tag; what the lines of other blocks begin with is their name
abbrev pub title : ℕ → List ℕ
title tag =
    if tag == 0x00 then codes ", video capability"
    else if tag == 0x05 then codes ", colorimetry"
    else if tag == 0x06 then codes ", static HDR metadata"
    else if tag == 0x0d then codes ", preferred formats"
    else if tag == 0x0e then codes ", formats in 4:2:0 alone"
    else if tag == 0x0f then codes ", formats in 4:2:0 too"
    else if tag == 0x22 then codes ", DisplayID type VII timing"
    else if tag == 0x23 then codes ", DisplayID type VIII timings"
    else if tag == 0x2a then codes ", DisplayID type X timings"
    else []

abbrev pub title_lines : ℕ → List (List ℕ)
title_lines tag = below (title tag)

-- DisplayID's timings of type VII, VIII and X
abbrev pub is_timing_block : ℕ → Bool
is_timing_block tag = (tag == 0x22) || (tag == 0x23) || (tag == 0x2a)

-- a block without a known name, by its tag
unfoldable pub tag_meanings : ℕ → List ℕ → List (List ℕ)
tag_meanings tag p = below ((codes ", extended tag " ++ encode_lower (tag ∷ [])) ++ rest_words p)

-- the identifier of a maker without a known name, its highest byte first, and the bytes after it
abbrev pub maker_words : List ℕ → List ℕ → List ℕ
maker_words before p = (before ++ encode_lower (slice_index p 2 ∷ slice_index p 1 ∷ slice_index p 0 ∷ [])) ++ rest_words (drop 3 p)

abbrev pub maker_meanings : List ℕ → List ℕ → List (List ℕ)
maker_meanings before p = if nat_lt (length p) 3 then [] else below (maker_words before p)
