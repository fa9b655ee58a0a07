-- What video capability, colorimetry and HDR blocks mean (CTA-861-G, sections 7.5.5, 7.5.6 and 7.5.13), of the bytes after the extended tag.
use Rattle.std.specs.Prelude.{ℕ, ◌/◌, ◌%◌, ◌==◌, if◌then◌else◌, List, [], ◌∷◌, ◌++◌, drop, slice_index, codes}
use Rattle.meaning_words.specs.Notes.{Row, row, below, text_between, set_words, rest_words}
use Rattle.meaning_fields.specs.Luminance.{luminance, least_words}

-- ---- video capability: quantization ranges that can be chosen, and how pictures are scanned

abbrev pub range_rows : List Row
range_rows =
    row 64 (codes "RGB range selectable") ∷
    row 128 (codes "YCC range selectable") ∷ []

-- 1 to 3; 0 says that there is none
abbrev pub scan_text : ℕ → List ℕ
scan_text n = if n == 1 then codes "overscanned" else if n == 2 then codes "underscanned" else codes "over- or underscanned"

abbrev pub scan_words : List ℕ → List ℕ → ℕ → List ℕ
scan_words none name n = if n == 0 then none else name ++ scan_text n

-- bits 5 and 4, 3 and 2, 1 and 0: the preferred timing, where it is told of; IT formats; CE formats
abbrev pub capability_words : ℕ → List ℕ
capability_words b =
    set_words range_rows b ++
    (scan_words [] (codes ", preferred timing ") (b / 16 % 4) ++
    (scan_words (codes ", no IT formats") (codes ", IT formats ") (b / 4 % 4) ++ scan_words (codes ", no CE formats") (codes ", CE formats ") (b % 4)))

abbrev pub capability_meanings : List ℕ → List (List ℕ)
capability_meanings p = below (capability_words (slice_index p 0) ++ rest_words (drop 1 p))

-- ---- colorimetry

abbrev pub colour_rows : List Row
colour_rows =
    row 1 (codes "xvYCC601") ∷
    row 2 (codes "xvYCC709") ∷
    row 4 (codes "sYCC601") ∷
    row 8 (codes "opYCC601") ∷
    row 16 (codes "opRGB") ∷
    row 32 (codes "BT2020cYCC") ∷
    row 64 (codes "BT2020YCC") ∷
    row 128 (codes "BT2020RGB") ∷ []

abbrev pub gamut_rows : List Row
gamut_rows =
    row 128 (codes "DCI-P3") ∷
    row 64 (codes "ICtCp") ∷
    row 32 (codes "sRGB") ∷
    row 16 (codes "default RGB") ∷
    row 1 (codes "gamut metadata 0") ∷
    row 2 (codes "gamut metadata 1") ∷
    row 4 (codes "gamut metadata 2") ∷
    row 8 (codes "gamut metadata 3") ∷ []

abbrev pub colour_meanings : List ℕ → List (List ℕ)
colour_meanings p = below (set_words colour_rows (slice_index p 0) ++ (set_words gamut_rows (slice_index p 1) ++ rest_words (drop 2 p)))

-- ---- HDR static metadata

abbrev pub curve_rows : List Row
curve_rows =
    row 1 (codes "traditional gamma SDR") ∷
    row 2 (codes "traditional gamma HDR") ∷
    row 4 (codes "SMPTE ST 2084") ∷
    row 8 (codes "hybrid log-gamma") ∷
    row 16 (codes "reserved transfer function 4") ∷
    row 32 (codes "reserved transfer function 5") ∷
    row 64 (codes "reserved transfer function 6") ∷
    row 128 (codes "reserved transfer function 7") ∷ []

abbrev pub metadata_rows : List Row
metadata_rows =
    row 1 (codes "static metadata type 1") ∷
    row 2 (codes "reserved metadata type 2") ∷
    row 4 (codes "reserved metadata type 3") ∷
    row 8 (codes "reserved metadata type 4") ∷
    row 16 (codes "reserved metadata type 5") ∷
    row 32 (codes "reserved metadata type 6") ∷
    row 64 (codes "reserved metadata type 7") ∷
    row 128 (codes "reserved metadata type 8") ∷ []

-- a luminance of content by its code, where it is told of
abbrev pub luminance_words : List ℕ → ℕ → List ℕ
luminance_words name code = if code == 0 then [] else text_between name (luminance code) (codes " cd/m2")

-- bytes 3 to 5, as far as they are there, and what is left
abbrev pub content_words : List ℕ → List ℕ
content_words p =
    luminance_words (codes ", content up to ") (slice_index p 2) ++
    (luminance_words (codes ", frames on average up to ") (slice_index p 3) ++ (least_words (slice_index p 2) (slice_index p 4) ++ rest_words (drop 5 p)))

abbrev pub hdr_words : List ℕ → List ℕ
hdr_words p = set_words curve_rows (slice_index p 0) ++ (set_words metadata_rows (slice_index p 1) ++ content_words p)

abbrev pub hdr_meanings : List ℕ → List (List ℕ)
hdr_meanings p = below (hdr_words p)
