-- What the limits of a display's ranges mean (E-EDID Release A, section 3.10.3.3), of the 14 bytes after the tag.
use Rattle.std.specs.Prelude.{ℕ, ◌+◌, ◌-◌, ◌*◌, ◌/◌, ◌%◌, ◌==◌, nat_le, if◌then◌else◌, List, [], ◌∷◌, ◌++◌, slice_index, codes}
use Rattle.hex.specs.Hex.{encode_lower}
use Rattle.edid_base.specs.declared.base.Revision.{Revision}
use Rattle.edid_base.specs.declared.base.Revision.TheVariants.{Three, Four}
use Rattle.meaning_words.specs.Notes.{Row, row, below, text_between, hundredths, is_set, set_words}

-- ---- limits

-- two bits of byte 4 add 255 in 1.4: 2 to the greatest rate, 3 to both
abbrev pub least_rate : Revision → ℕ → ℕ → ℕ
least_rate Three bits rate = rate
least_rate Four bits rate = if bits == 3 then rate + 255 else rate

abbrev pub greatest_rate : Revision → ℕ → ℕ → ℕ
greatest_rate Three bits rate = rate
greatest_rate Four bits rate = if nat_le 2 bits then rate + 255 else rate

abbrev pub field_text : Revision → List ℕ → List ℕ
field_text r p =
    text_between [] (least_rate r (slice_index p 0 % 4) (slice_index p 1)) (codes " to ") ++ text_between [] (greatest_rate r (slice_index p 0 % 4) (slice_index p 2)) (codes " Hz, ")

abbrev pub line_text : Revision → List ℕ → List ℕ
line_text r p =
    text_between [] (least_rate r (slice_index p 0 / 4 % 4) (slice_index p 3)) (codes " to ") ++ text_between [] (greatest_rate r (slice_index p 0 / 4 % 4) (slice_index p 4)) (codes " kHz")

-- in units of 10 MHz
abbrev pub clock_text : ℕ → List ℕ
clock_text clock = if clock == 0 then [] else text_between (codes ", up to ") (10 * clock) (codes " MHz")

abbrev pub limits_text : Revision → List ℕ → List ℕ
limits_text r p = field_text r p ++ (line_text r p ++ clock_text (slice_index p 5))

-- ---- formulas

-- The form 00: in 1.3 no second formula, and bit 0 of the features says whether the default GTF is there (section 3.6.4); in 1.4 it is
-- the default GTF by itself (E-EDID 1.4, section 3.10.3.3), and a display without that bit has another form.
abbrev pub gtf_text : Revision → ℕ → List ℕ
gtf_text Three features = if is_set features 1 then codes ", GTF" else codes ", no formula"
gtf_text Four features = codes ", GTF"

abbrev pub new_name : Revision → ℕ → List ℕ
new_name Three form = codes ", form " ++ encode_lower (form ∷ [])
new_name Four form =
    if form == 1 then codes ", limits alone" else if form == 4 then codes ", CVT" else codes ", form " ++ encode_lower (form ∷ [])

abbrev pub form_name : Revision → ℕ → ℕ → List ℕ
form_name r features form =
    if form == 0 then gtf_text r features else if form == 2 then codes ", second GTF" else new_name r form

-- start in units of 2 kHz; C and J twice, M with its low byte first, K
abbrev pub second_text : List ℕ → List ℕ
second_text p =
    text_between (codes "from ") (2 * slice_index p 8) (codes " kHz, C ") ++ (hundredths (50 * slice_index p 9) ++
    (text_between (codes ", M ") (slice_index p 10 + 256 * slice_index p 11) (codes ", K ") ++ (text_between [] (slice_index p 12) (codes ", J ") ++ hundredths (50 * slice_index p 13))))

-- version, exact greatest clock and pixels of a line
abbrev pub cvt_pixels : ℕ → List ℕ
cvt_pixels pixels = if pixels == 0 then [] else text_between (codes ", up to ") (8 * pixels) (codes " pixels a line")

abbrev pub cvt_head : List ℕ → List ℕ
cvt_head p =
    text_between (codes "CVT ") (slice_index p 7 / 16) (codes ".") ++ (text_between [] (slice_index p 7 % 16) (codes ", up to ") ++
    (hundredths (1000 * slice_index p 5 - 25 * (slice_index p 8 / 4)) ++ (codes " MHz" ++ cvt_pixels (slice_index p 9 + 256 * (slice_index p 8 % 4)))))

abbrev pub aspect_rows : List Row
aspect_rows =
    row 128 (codes "4:3") ∷
    row 64 (codes "16:9") ∷
    row 32 (codes "16:10") ∷
    row 16 (codes "5:4") ∷
    row 8 (codes "15:9") ∷ []

abbrev pub preferred_text : ℕ → List ℕ
preferred_text aspect =
    if aspect == 0 then codes ", preferred aspect 4:3"
    else if aspect == 1 then codes ", preferred aspect 16:9"
    else if aspect == 2 then codes ", preferred aspect 16:10"
    else if aspect == 3 then codes ", preferred aspect 5:4"
    else if aspect == 4 then codes ", preferred aspect 15:9"
    else codes ", reserved preferred aspect"

abbrev pub blanking_rows : List Row
blanking_rows =
    row 16 (codes "reduced blanking") ∷
    row 8 (codes "standard blanking") ∷ []

abbrev pub scaling_rows : List Row
scaling_rows =
    row 128 (codes "horizontal shrink") ∷
    row 64 (codes "horizontal stretch") ∷
    row 32 (codes "vertical shrink") ∷
    row 16 (codes "vertical stretch") ∷ []

abbrev pub preferred_rate : ℕ → List ℕ
preferred_rate rate = if rate == 0 then [] else text_between (codes ", preferred ") rate (codes " Hz")

abbrev pub cvt_words : List ℕ → List ℕ
cvt_words p =
    set_words aspect_rows (slice_index p 10) ++ (preferred_text (slice_index p 11 / 32) ++
    (set_words blanking_rows (slice_index p 11) ++ (set_words scaling_rows (slice_index p 12) ++ preferred_rate (slice_index p 13))))

abbrev pub cvt_meanings : List ℕ → List (List ℕ)
cvt_meanings p = cvt_head p ∷ below (cvt_words p)

abbrev pub four_meanings : Revision → ℕ → List ℕ → List (List ℕ)
four_meanings Three form p = []
four_meanings Four form p = if form == 4 then cvt_meanings p else []

abbrev pub form_meanings : Revision → ℕ → List ℕ → List (List ℕ)
form_meanings r form p = if form == 2 then second_text p ∷ [] else four_meanings r form p

-- ---- all of it

abbrev pub range_text : Revision → ℕ → List ℕ → List ℕ
range_text r features p = limits_text r p ++ form_name r features (slice_index p 6)

unfoldable pub range_meanings : Revision → ℕ → List ℕ → List (List ℕ)
range_meanings r features p = range_text r features p ∷ form_meanings r (slice_index p 6) p
