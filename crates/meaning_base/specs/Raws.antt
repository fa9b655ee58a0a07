-- What descriptors of no known form (E-EDID Release A, section 3.10.3) and extensions that are no CTA block (section 2.2.1)
-- indicate themselves.
use Rattle.std.specs.Prelude.{ℕ, ◌==◌, ◌&&◌, ◌||◌, nat_lt, Bool, if◌then◌else◌, List, [], ◌∷◌, ◌++◌, drop, slice_index, codes}
use Rattle.edid_base.specs.Bytes.{are_zeros}
use Rattle.meaning_words.specs.Notes.{text_between}
use Rattle.meaning_base.specs.Heads.{head_rows}
use Rattle.meaning_fields.specs.Fields.{field_words}

-- ---- descriptors

abbrev pub tag_name : ℕ → List ℕ
tag_name tag =
    if tag == 0xff then codes "serial number"
    else if tag == 0xfe then codes "text"
    else if tag == 0xfd then codes "range limits"
    else if tag == 0xfc then codes "name"
    else if tag == 0xfb then codes "colour point"
    else if tag == 0xfa then codes "standard timings"
    else if tag == 0xf9 then codes "colour management"
    else if tag == 0xf8 then codes "CVT codes"
    else if tag == 0xf7 then codes "established timings III"
    else if tag == 0x10 then codes "dummy"
    else if nat_lt tag 0x10 then codes "of the maker's own"
    else codes "reserved"

-- a serial number, a text and a name have 13 characters
abbrev pub has_characters : ℕ → Bool
has_characters tag = (tag == 0xff) || (tag == 0xfe) || (tag == 0xfc)

abbrev pub characters : ℕ → List ℕ → List ℕ
characters tag bytes = if has_characters tag then codes ": " ++ drop 5 bytes else []

abbrev pub tagged_text : List ℕ → List ℕ
tagged_text bytes = tag_name (slice_index bytes 3) ++ characters (slice_index bytes 3) bytes

-- all zeros; a tag after three zeros; or neither
abbrev pub raw_text : List ℕ → List ℕ
raw_text bytes =
    if are_zeros bytes then codes "empty"
    else if (slice_index bytes 0 == 0) && (slice_index bytes 1 == 0) && (slice_index bytes 2 == 0) then tagged_text bytes
    else codes "no tag"

unfoldable pub raw_meanings : List ℕ → List (List ℕ)
raw_meanings bytes = raw_text bytes ∷ []

-- ---- extensions

-- A block of CTA-861 is kept raw where its revision is not 3, or where its data blocks and timings are not what byte 2 reports.
abbrev pub cta_text : ℕ → List ℕ
cta_text revision = if revision == 3 then codes "CTA-861, data blocks or timings that overrun" else text_between (codes "CTA-861 of revision ") revision []

abbrev pub ext_name : List ℕ → List ℕ
ext_name bytes =
    if slice_index bytes 0 == 0x02 then cta_text (slice_index bytes 1)
    else if slice_index bytes 0 == 0x10 then codes "video timing block"
    else if slice_index bytes 0 == 0x40 then codes "display information"
    else if slice_index bytes 0 == 0x50 then codes "localized strings"
    else if slice_index bytes 0 == 0x60 then codes "digital packet video link"
    else if slice_index bytes 0 == 0x70 then codes "DisplayID"
    else if slice_index bytes 0 == 0xf0 then codes "block map"
    else if slice_index bytes 0 == 0xff then codes "of the maker's own"
    else codes "unknown extension"

-- its kind, and what its first bytes report
abbrev pub ext_text : List ℕ → List ℕ
ext_text bytes = ext_name bytes ++ field_words (head_rows bytes) bytes

unfoldable pub ext_meanings : List ℕ → List (List ℕ)
ext_meanings bytes = ext_text bytes ∷ []
