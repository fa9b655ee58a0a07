-- What a section of DisplayID means, an extension of 128 bytes (DisplayID 1.3, sections 3 and 4; DisplayID 2.1).
use Rattle.std.specs.Prelude.{ℕ, ◌+◌, ◌/◌, ◌%◌, ◌==◌, ◌||◌, ◌&&◌, nat_le, nat_lt, Bool, if◌then◌else◌, Option, Some, None, List, [], ◌∷◌, ◌++◌, length, take, drop, slice_index, codes}
use Rattle.hex.specs.Hex.{encode_lower}
use Rattle.edid_base.specs.Bytes.{are_zeros}
use Rattle.meaning_words.specs.Notes.{below, rest_words}
use Rattle.meaning_fields.specs.Fields.{Row, row, words, number, above, block_meanings}
use Rattle.meaning_displayid.specs.Forms.{Form, form_lines}
use Rattle.meaning_displayid.specs.Timings.{left_lines}
use Rattle.meaning_displayid.specs.One as one
use Rattle.meaning_displayid.specs.Two as two

-- ---- the header: bytes 2 to 5

abbrev pub head_rows : List Row
head_rows =
    row 1 1 16 16 (number (codes ", version ") 1 0 []) ∷
    row 1 1 1 16 (number (codes ".") 1 0 []) ∷
    row 2 1 1 256 (number (codes ", ") 1 0 (codes " bytes of data")) ∷
    row 3 1 1 256 (words (codes ", product type ") (codes ", an extension" ∷ codes ", a test structure" ∷ codes ", a panel" ∷ codes ", a stand-alone display" ∷ codes ", a television receiver" ∷ codes ", a repeater" ∷ codes ", a direct drive monitor" ∷ [])) ∷
    row 4 1 1 256 (above (codes ", ") 1 (codes " further sections")) ∷ []

-- from version 2 on the use of the display stands in the place of the product type
abbrev pub use_rows : List Row
use_rows =
    row 1 1 16 16 (number (codes ", version ") 1 0 []) ∷
    row 1 1 1 16 (number (codes ".") 1 0 []) ∷
    row 2 1 1 256 (number (codes ", ") 1 0 (codes " bytes of data")) ∷
    row 3 1 1 256 (words (codes ", use ") (codes ", an extension" ∷ codes ", a test structure" ∷ codes ", a generic display" ∷ codes ", a television" ∷ codes ", for desktop work" ∷ codes ", for desktop games" ∷ codes ", for presentations" ∷ codes ", for virtual reality" ∷ codes ", for augmented reality" ∷ [])) ∷
    row 4 1 1 256 (above (codes ", ") 1 (codes " further sections")) ∷ []

abbrev pub head_lines : List ℕ → List (List ℕ)
head_lines p = if nat_le 32 (slice_index p 1) then block_meanings [] use_rows 128 p else block_meanings [] head_rows 128 p

-- ---- data blocks

-- byte 1 of a data block has the revision in its low three bits; in bits 6 to 4 of blocks of timings and of Adaptive-Sync stands
-- how many bytes more each item has
abbrev pub revision_of : ℕ → ℕ
revision_of r = r % 8

abbrev pub extra_of : ℕ → ℕ
extra_of r = r / 16 % 8

-- in bits 7 and 6 of blocks of codes whose codes they are
abbrev pub codes_form : ℕ → Option Form
codes_form r =
    if r / 64 == 0 then Some one.dmt_codes
    else if r / 64 == 1 then Some one.vic_codes
    else if r / 64 == 2 then Some one.hdmi_vic_codes
    else None

-- bits 6 to 4 of the first byte count the primaries
abbrev pub colours_form : List ℕ → Form
colours_form p = if slice_index p 0 / 16 % 8 == 0 then one.space else one.colours

abbrev pub interface_form : List ℕ → Form
interface_form p = if nat_le 10 (length p) then one.interface else one.short_interface

abbrev pub tiles_form : Form → List ℕ → Form
tiles_form tiles p = if nat_le 22 (length p) then tiles else one.short_tiles

-- the data blocks of DisplayID 1.3 with timings and rates
unfoldable pub timings_form : ℕ → ℕ → Option Form
timings_form tag r =
    if tag == 0x03 then Some one.timings_i
    else if tag == 0x04 then Some one.timings_ii
    else if tag == 0x05 then Some one.timings_iii
    else if tag == 0x06 then codes_form r
    else if tag == 0x09 then Some one.limits
    else if tag == 0x11 then Some one.timings_v
    else if tag == 0x13 then Some one.timings_vi
    else None

-- its others
unfoldable pub one_form : ℕ → ℕ → List ℕ → Option Form
one_form tag r p =
    if tag == 0x00 then Some one.product
    else if tag == 0x01 then Some one.parameters
    else if tag == 0x02 then Some (colours_form p)
    else if tag == 0x0a then Some one.serial
    else if tag == 0x0b then Some one.string
    else if tag == 0x0c then Some one.device
    else if tag == 0x0d then Some one.power
    else if tag == 0x0e then Some one.curves
    else if tag == 0x0f then Some (interface_form p)
    else if tag == 0x10 then Some one.stereo
    else if tag == 0x12 then Some (tiles_form one.tiles p)
    else timings_form tag r

-- of DisplayID 2.x: bit 7 says of a size that it is in millimetres, bit 3 of codes that they have two bytes
abbrev pub parameters_form : ℕ → Form
parameters_form r = if nat_lt r 128 then two.parameters else two.parameters_in_mm

abbrev pub seven_form : ℕ → Form
seven_form r = if nat_lt (revision_of r) 2 then two.timings_vii (extra_of r) else two.timings_vii_420 (extra_of r)

abbrev pub eight_form : ℕ → Option Form
eight_form r = if r / 8 % 2 == 0 then codes_form r else None

abbrev pub ten_form : ℕ → Form
ten_form r = if extra_of r == 0 then two.timings_x else two.long_timings_x (extra_of r)

abbrev pub limits_form : ℕ → Form
limits_form r = if revision_of r == 0 then two.limits else two.long_limits

-- the identifier 3A-02-92 is that of VESA
abbrev pub is_vesa : List ℕ → Bool
is_vesa p = nat_le 5 (length p) && ((slice_index p 0 == 0x3a) && ((slice_index p 1 == 0x02) && (slice_index p 2 == 0x92)))

abbrev pub vendor_form : List ℕ → Form
vendor_form p = if is_vesa p then two.vesa else two.vendor

-- type X has the tag 2a, and in drafts the tag 32
abbrev pub is_ten : ℕ → Bool
is_ten tag = (tag == 0x2a) || (tag == 0x32)

abbrev pub is_vendor : ℕ → Bool
is_vendor tag = (tag == 0x7e) || (tag == 0x7f)

unfoldable pub new_timings_form : ℕ → ℕ → Option Form
new_timings_form tag r =
    if tag == 0x22 then Some (seven_form r)
    else if tag == 0x23 then eight_form r
    else if tag == 0x24 then Some two.timings_ix
    else if tag == 0x25 then Some (limits_form r)
    else if tag == 0x2b then Some (two.adaptive_sync (extra_of r))
    else if is_ten tag then Some (ten_form r)
    else None

unfoldable pub two_form : ℕ → ℕ → List ℕ → Option Form
two_form tag r p =
    if tag == 0x20 then Some two.product
    else if tag == 0x21 then Some (parameters_form r)
    else if tag == 0x26 then Some two.features
    else if tag == 0x27 then Some one.stereo
    else if tag == 0x28 then Some (tiles_form two.tiles p)
    else if tag == 0x29 then Some two.container
    else if is_vendor tag then Some (vendor_form p)
    else new_timings_form tag r

-- how a data block is told: of its tag, byte 1 and payload
unfoldable pub form_of : ℕ → ℕ → List ℕ → Option Form
form_of tag r p = if nat_lt tag 0x20 then one_form tag r p else two_form tag r p

-- what a data block is for whose bytes are not read
abbrev pub section_name : ℕ → List ℕ
section_name tag =
    if (tag == 0x00) || (tag == 0x20) then codes ", product"
    else if tag == 0x07 then codes ", timings by codes of DMT"
    else if tag == 0x08 then codes ", timings by codes of CTA-861"
    else if tag == 0x26 then codes ", interface features"
    else if tag == 0x29 then codes ", container"
    else if tag == 0x81 then codes ", data blocks of CTA-861"
    else codes ", data block " ++ encode_lower (tag ∷ [])

abbrev pub named_lines : ℕ → List ℕ → List (List ℕ)
named_lines tag p = below (section_name tag ++ rest_words p)

-- of a form, where the payload is long enough for it
abbrev pub by_form : ℕ → List ℕ → Form → List (List ℕ)
by_form tag p f = if nat_le f.least (length p) then form_lines f p else named_lines tag p

abbrev pub told_by : ℕ → List ℕ → Option Form → List (List ℕ)
told_by tag p None = named_lines tag p
told_by tag p (Some f) = by_form tag p f

unfoldable pub section_lines : ℕ → ℕ → List ℕ → List (List ℕ)
section_lines tag r p = told_by tag p (form_of tag r p)

-- the byte after the tag, where it is not 0
abbrev pub revision_lines : ℕ → ℕ → List (List ℕ)
revision_lines tag r = if r == 0 then [] else ((codes "data block " ++ encode_lower (tag ∷ [])) ++ (codes ", revision and flags " ++ encode_lower (r ∷ []))) ∷ []

unfoldable pub block_lines : ℕ → ℕ → List ℕ → List (List ℕ)
block_lines tag r p = revision_lines tag r ++ section_lines tag r p

-- a timing block of CTA-861: the byte after its extended tag is that after the tag of a data block (CTA-861-I, sections 7.5.17 to 7.5.19)
abbrev pub timing_block : ℕ → List ℕ → List (List ℕ)
timing_block tag [] = []
timing_block tag (r ∷ p) = block_lines tag r p

-- zeros fill a section up
abbrev pub filled_lines : List ℕ → List (List ℕ)
filled_lines q = if are_zeros q then [] else left_lines q

-- a data block: tag, revision, length, and a payload of that length
abbrev pub payload_length : List ℕ → ℕ
payload_length q = slice_index q 2

unfoldable pub first_lines : List ℕ → List (List ℕ)
first_lines q = block_lines (slice_index q 0) (slice_index q 1) (take (payload_length q) (drop 3 q))

-- no data block stands here: fewer bytes than one has, or zeros
abbrev pub is_filled : List ℕ → Bool
is_filled q = nat_lt (length q) 3 || are_zeros q

-- data blocks; one that is cut stays in hex. There are no more of them than bytes, by whose list they are counted.
unfoldable pub data_lines : List ℕ → List ℕ → List (List ℕ)
data_lines [] q = filled_lines q
data_lines (c ∷ count) q =
    if is_filled q then filled_lines q
    else if nat_lt (length q) (3 + payload_length q) then left_lines q
    else first_lines q ++ data_lines count (drop (3 + payload_length q) q)

-- byte 3 counts the bytes of data
abbrev pub data_of : List ℕ → List ℕ
data_of p = take (slice_index p 2) (drop 5 p)

abbrev pub all_data : List ℕ → List (List ℕ)
all_data p = data_lines (data_of p) (data_of p)

unfoldable pub displayid_lines : List ℕ → List (List ℕ)
displayid_lines p = head_lines p ++ all_data p
