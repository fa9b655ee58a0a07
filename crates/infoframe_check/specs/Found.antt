-- What is found of an InfoFrame by its table, and by the EDID of a display (own; the tables and the claims cite the standards).
use Rattle.std.specs.Prelude.{ℕ, ◌+◌, ◌==◌, ◌&&◌, nat_lt, Bool, not, if◌then◌else◌, List}
use Rattle.std.specs.List.{list_all}
use Rattle.edid_base.specs.declared.base.Base.{Base}
use Rattle.edid_cta.specs.declared.raw.Ext.{Ext}
use Rattle.edid_fields.specs.Fields.{end_of, fields_of}
use Rattle.edid_fields.specs.Forms.{Field, Part}
use Rattle.edid_fields.specs.Words.{some_reserved}
use Rattle.edid_fields.specs.Words as words
use Rattle.infoframe_tables.specs.Kinds.{beyond_of, is_summed, kind_of, missing_of, own_bytes}
use Rattle.infoframe_tables.specs.Tables.{frame_parts}
use Rattle.infoframe_claims.specs.Claims.{claims_of}
use Rattle.infoframe_claims.specs.Offers.{is_offered}

-- its table, which is of the bytes that its length counts
abbrev pub table_of : List ℕ → List Part
table_of frame = frame_parts (kind_of frame)

abbrev pub frame_fields : List ℕ → List Field
frame_fields frame = fields_of (table_of frame) (own_bytes frame)

-- how many bytes are missing by its length, or else by its table, and how many are left over
abbrev pub first_cut : ℕ → ℕ → ℕ
first_cut missing cut = if nat_lt 0 missing then missing else cut

abbrev pub cut_of : List ℕ → ℕ
cut_of frame = first_cut (missing_of frame) (words.cut_of (own_bytes frame) (end_of (table_of frame) (own_bytes frame)))

abbrev pub left_of : List ℕ → ℕ
left_of frame = beyond_of frame + words.left_of (own_bytes frame) (end_of (table_of frame) (own_bytes frame))

-- no byte is missing or left over, its checksum is right, and no field has a reserved value
abbrev pub is_well_formed : List ℕ → Bool
is_well_formed frame =
    is_summed frame && ((cut_of frame == 0) && ((left_of frame == 0) && not (some_reserved (table_of frame) (own_bytes frame))))

-- the display offers all that it claims
abbrev pub is_all_offered : Base → List Ext → List ℕ → Bool
is_all_offered b xs frame = list_all (λ claim. is_offered claim b xs) (claims_of frame)

abbrev pub is_right : Base → List Ext → List ℕ → Bool
is_right b xs frame = is_well_formed frame && is_all_offered b xs frame
