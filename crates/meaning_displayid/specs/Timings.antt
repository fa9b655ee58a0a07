-- The picture, the rate and the clock of a timing of 20 bytes (DisplayID 1.3, section 4.4.1, type I; DisplayID 2.0, section 4.3, type VII).
use Rattle.std.specs.Prelude.{ℕ, ◌+◌, ◌*◌, List, [], ◌++◌, slice_index, codes}
use Rattle.meaning_words.specs.Notes.{below, text_between, thousandths, rest_words}
use Rattle.meaning_words.specs.Rates.{nearest}

-- two bytes, the lowest first, and 1
abbrev pub two_at : List ℕ → ℕ → ℕ
two_at q place = slice_index q place + slice_index q (place + 1) * 256 + 1

-- the pixel clock in kHz, in units of 10 of them (type I) or of 1 (type VII)
abbrev pub clock_of : ℕ → List ℕ → ℕ
clock_of unit q = (slice_index q 0 + slice_index q 1 * 256 + slice_index q 2 * 65536 + 1) * unit

-- all pixels of a line, and all lines
abbrev pub line_pixels : List ℕ → ℕ
line_pixels q = two_at q 4 + two_at q 6

abbrev pub picture_lines : List ℕ → ℕ
picture_lines q = two_at q 12 + two_at q 14

-- pictures a second, in thousandths
abbrev pub picture_rate : ℕ → List ℕ → ℕ
picture_rate unit q = nearest (clock_of unit q * 1000000) (line_pixels q * picture_lines q)

abbrev pub picture_text : List ℕ → List ℕ
picture_text q = text_between [] (two_at q 4) (codes "x") ++ text_between [] (two_at q 12) (codes " at ")

abbrev pub rate_text : ℕ → List ℕ → List ℕ
rate_text unit q = thousandths (picture_rate unit q) ++ codes " Hz, "

abbrev pub clock_text : ℕ → List ℕ → List ℕ
clock_text unit q = thousandths (clock_of unit q) ++ codes " MHz"

abbrev pub front_text : ℕ → List ℕ → List ℕ
front_text unit q = picture_text q ++ (rate_text unit q ++ clock_text unit q)

abbrev pub left_lines : List ℕ → List (List ℕ)
left_lines q = below (rest_words q)
