-- What a block of AMD means, of the bytes after the identifier (FreeSync; no clause of a public standard: as open readers of EDIDs
-- have it, and in hex what none of them says).
use Rattle.std.specs.Prelude.{ℕ, ◌+◌, ◌*◌, ◌/◌, ◌%◌, ◌==◌, if◌then◌else◌, List, [], ◌∷◌, ◌++◌, drop, slice_index, codes}
use Rattle.hex.specs.Hex.{encode_lower}
use Rattle.meaning_words.specs.Notes.{below, rest_words}
use Rattle.meaning_fields.specs.Luminance.{least_words}
use Rattle.meaning_fields.specs.Fields.{Row, row, word, number, hex, light, field_words}

-- the version, the range of field rates, how it is switched on
abbrev pub sync_rows : List Row
sync_rows =
    row 0 1 1 256 (number (codes " version ") 1 0 []) ∷
    row 1 1 1 256 (number (codes ".") 1 0 []) ∷
    row 2 1 1 256 (number (codes ", from ") 1 0 (codes " Hz")) ∷
    row 3 1 1 256 (number (codes " to ") 1 0 (codes " Hz")) ∷
    row 4 1 1 256 (hex (codes ", by MCCS with VCP code ") 1) ∷
    row 5 1 4 2 (word (codes ", luminances without local dimming")) ∷ []

-- the other bits of byte 6
abbrev pub other_bits : ℕ → ℕ
other_bits b = b / 8 * 8 + b % 4

abbrev pub other_text : ℕ → List ℕ
other_text bits = if bits == 0 then [] else codes ", other bits of byte 6 are " ++ encode_lower (bits ∷ [])

-- luminances as of HDR static metadata
abbrev pub light_rows : List Row
light_rows =
    row 6 1 1 256 (light (codes ", up to ")) ∷ []

-- bytes 9 and 10: where bit 2 of byte 6 is set, the same without local dimming
abbrev pub plain_rows : List Row
plain_rows =
    row 8 1 1 256 (light (codes ", without local dimming up to ")) ∷ []

-- where it is clear, nothing is known of them
abbrev pub spare_rows : List Row
spare_rows =
    row 8 1 1 256 (hex (codes ", byte 9 is ") 1) ∷
    row 9 1 1 256 (hex (codes ", byte 10 is ") 1) ∷ []

abbrev pub plain_text : List ℕ → List ℕ
plain_text p =
    if slice_index p 5 / 4 % 2 == 1 then field_words plain_rows p ++ least_words (slice_index p 8) (slice_index p 9) else field_words spare_rows p

abbrev pub light_text : List ℕ → List ℕ
light_text p = field_words light_rows p ++ least_words (slice_index p 6) (slice_index p 7)

abbrev pub sync_words : List ℕ → List ℕ
sync_words p =
    codes ", AMD FreeSync" ++ (field_words sync_rows p ++ (other_text (other_bits (slice_index p 5)) ++ (light_text p ++ (plain_text p ++ rest_words (drop 10 p)))))

abbrev pub sync_meanings : List ℕ → List (List ℕ)
sync_meanings p = below (sync_words p)
