-- What a descriptor means that has a form of its own, by its tag after three zeros (E-EDID Release A2, section 3.10.3).
use Rattle.std.specs.Prelude.{ℕ, ◌==◌, ◌&&◌, Bool, if◌then◌else◌, List, [], ◌∷◌, slice_index, codes}
use Rattle.meaning_fields.specs.Fields.{Row, row, number, hex, block_meanings}
use Rattle.meaning_base.specs.EstablishedIii.{established_meanings}
use Rattle.meaning_base.specs.Cvt.{cvt_meanings}

-- colour management: two numbers for each colour, in hundredths (section 3.10.3.7)
abbrev pub colour_rows : List Row
colour_rows =
    row 4 1 1 256 (hex (codes ", byte 5 is ") 1) ∷
    row 5 1 1 256 (number (codes ", revision ") 1 0 []) ∷
    row 6 2 1 65536 (number (codes ", red a3 ") 1 0 (codes " hundredths")) ∷
    row 8 2 1 65536 (number (codes ", red a2 ") 1 0 (codes " hundredths")) ∷
    row 10 2 1 65536 (number (codes ", green a3 ") 1 0 (codes " hundredths")) ∷
    row 12 2 1 65536 (number (codes ", green a2 ") 1 0 (codes " hundredths")) ∷
    row 14 2 1 65536 (number (codes ", blue a3 ") 1 0 (codes " hundredths")) ∷
    row 16 2 1 65536 (number (codes ", blue a2 ") 1 0 (codes " hundredths")) ∷ []

abbrev pub colour_meanings : List ℕ → List (List ℕ)
colour_meanings p = block_meanings [] colour_rows 18 p

abbrev pub has_tag : List ℕ → Bool
has_tag p = (slice_index p 0 == 0) && ((slice_index p 1 == 0) && (slice_index p 2 == 0))

abbrev pub tagged_meanings : ℕ → List ℕ → List (List ℕ)
tagged_meanings tag p =
    if tag == 0xf7 then established_meanings p
    else if tag == 0xf8 then cvt_meanings p
    else if tag == 0xf9 then colour_meanings p
    else []

unfoldable pub descriptor_meanings : List ℕ → List (List ℕ)
descriptor_meanings p = if has_tag p then tagged_meanings (slice_index p 3) p else []
