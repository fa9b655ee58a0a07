-- The records of an InfoFrame against an EDID (own).
use Rattle.std.specs.Prelude.{ℕ, ◌-◌, ◌/◌, ◌%◌, Bool, true, false, if◌then◌else◌, nat_lt, List, [], ◌∷◌, ◌++◌, Option, Some, None, codes, slice_index}
use Rattle.std.specs.List.{flat_map}
use Rattle.edid_base.specs.declared.base.Base.{Base}
use Rattle.edid_cta.specs.declared.raw.Ext.{Ext}
use Rattle.edid_fields.specs.Forms.{Field}
use Rattle.edid_fields.specs.Words.{is_reserved, word_of}
use Rattle.infoframe_tables.specs.Kinds.{checksum_due, is_summed, kind_of, kind_word, length_of, type_of, version_of}
use Rattle.infoframe_claims.specs.Claims.{claims_of}
use Rattle.infoframe_claims.specs.Offers.{is_offered}
use Rattle.infoframe_claims.specs.Words.{claim_number, claim_word}
use Rattle.infoframe_claims.specs.declared.claim.Claim.{Claim}
use Rattle.infoframe_check.specs.Found.{cut_of, frame_fields, left_of}
use Rattle.record_core.specs.Cells.{PlainCell, both, hidden}
use Rattle.record_core.specs.Records.{record_text}
use Rattle.record_core.specs.Values as values
use Rattle.record_core.specs.declared.cell.Form.{Form}

-- ---- the InfoFrame: its kind, the header, the checksum and the one that is due, and how many bytes are cut and left over

abbrev pub right_cells : List ℕ → ℕ → ℕ → ℕ → ℕ → ℕ → ℕ → List PlainCell
right_cells kind type version length checksum cut left =
    both [] (codes "kind") (values.text kind) ∷ both (codes " type ") (codes "packet_type") (values.hex_byte type)
    ∷ both (codes " version ") (codes "version") (values.number version) ∷ both (codes " length ") (codes "length") (values.number length)
    ∷ both (codes " checksum ") (codes "checksum") (values.hex_byte checksum) ∷ both (codes " ") (codes "sum") (values.text (codes "right"))
    ∷ hidden (codes "due") (values.hex_byte checksum)
    ∷ both (codes " cut ") (codes "cut") (values.number cut) ∷ both (codes " left ") (codes "left") (values.number left) ∷ []

abbrev pub wrong_cells : List ℕ → ℕ → ℕ → ℕ → ℕ → ℕ → ℕ → ℕ → List PlainCell
wrong_cells kind type version length checksum due cut left =
    both [] (codes "kind") (values.text kind) ∷ both (codes " type ") (codes "packet_type") (values.hex_byte type)
    ∷ both (codes " version ") (codes "version") (values.number version) ∷ both (codes " length ") (codes "length") (values.number length)
    ∷ both (codes " checksum ") (codes "checksum") (values.hex_byte checksum) ∷ both (codes " ") (codes "sum") (values.text (codes "wrong"))
    ∷ both (codes " due ") (codes "due") (values.hex_byte due)
    ∷ both (codes " cut ") (codes "cut") (values.number cut) ∷ both (codes " left ") (codes "left") (values.number left) ∷ []

abbrev pub header_by : Form → Bool → List ℕ → ℕ → ℕ → ℕ → ℕ → ℕ → ℕ → ℕ → List ℕ
header_by form true kind type version length checksum due cut left =
    record_text form (codes "infoframe") (right_cells kind type version length checksum cut left)
header_by form false kind type version length checksum due cut left =
    record_text form (codes "infoframe") (wrong_cells kind type version length checksum due cut left)

abbrev pub header_record : Form → List ℕ → List ℕ
header_record form frame =
    header_by form (is_summed frame) (kind_word (kind_of frame)) (type_of frame) (version_of frame) (length_of frame) (slice_index frame 3)
    (checksum_due frame) (cut_of frame) (left_of frame)

-- ---- a field: HB or PB with the number of its byte (HDMI 1.4b, section 5.3.5), its highest and its lowest bit, its name, its value,
-- what the value says, and `reserved` where it is

abbrev pub field_cells : List ℕ → ℕ → ℕ → ℕ → List ℕ → ℕ → List ℕ → List ℕ → List ℕ → List PlainCell
field_cells part byte high low name value lead meaning found =
    both [] (codes "part") (values.text part) ∷ both [] (codes "byte") (values.number byte)
    ∷ both (codes " bits ") (codes "high") (values.number high) ∷ both (codes "-") (codes "low") (values.number low)
    ∷ both (codes " ") (codes "name") (values.text name) ∷ both (codes " ") (codes "value") (values.number value)
    ∷ both lead (codes "meaning") (values.text meaning) ∷ hidden (codes "found") (values.text found) ∷ []

abbrev pub part_of : ℕ → List ℕ
part_of byte = if nat_lt byte 3 then codes "HB" else codes "PB"

abbrev pub byte_of : ℕ → ℕ
byte_of byte = if nat_lt byte 3 then byte else byte - 3

-- nothing stands before a meaning that has no byte
abbrev pub lead_of : List ℕ → List ℕ
lead_of [] = []
lead_of (b ∷ bs) = codes " "

abbrev pub found_of : Bool → List ℕ
found_of true = codes "reserved"
found_of false = []

abbrev pub field_record : Form → Field → List ℕ
field_record form f =
    record_text form (codes "infoframe-field")
    (field_cells (part_of (f.at / 8)) (byte_of (f.at / 8)) (7 - f.at % 8) (8 - f.at % 8 - f.width) f.row.1 f.value (lead_of (word_of f)) (word_of f)
    (found_of (is_reserved f)))

abbrev pub fields_text : Form → List Field → List ℕ
fields_text form fields = flat_map (field_record form) fields

-- ---- a claim that the display does not meet

abbrev pub numbered_cells : List ℕ → ℕ → List PlainCell
numbered_cells word number =
    both (codes "not offered: ") (codes "what") (values.text word) ∷ both (codes " ") (codes "number") (values.number number) ∷ []

abbrev pub plain_cells : List ℕ → List PlainCell
plain_cells word =
    both (codes "not offered: ") (codes "what") (values.text word) ∷ hidden (codes "number") values.nothing ∷ []

abbrev pub unoffered_by : Form → List ℕ → Option ℕ → List ℕ
unoffered_by form word None = record_text form (codes "unoffered") (plain_cells word)
unoffered_by form word (Some number) = record_text form (codes "unoffered") (numbered_cells word number)

abbrev pub claim_text : Form → Base → List Ext → Claim → List ℕ
claim_text form b xs claim = if is_offered claim b xs then [] else unoffered_by form (claim_word claim) (claim_number claim)

abbrev pub unoffered_text : Form → Base → List Ext → List Claim → List ℕ
unoffered_text form b xs claims = flat_map (claim_text form b xs) claims

-- ---- all of it

abbrev pub infoframe_text : Form → Base → List Ext → List ℕ → List ℕ
infoframe_text form b xs frame =
    header_record form frame ++ (fields_text form (frame_fields frame) ++ unoffered_text form b xs (claims_of frame))
