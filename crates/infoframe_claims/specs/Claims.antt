-- What an InfoFrame says that a display has to offer.
use Rattle.std.specs.Prelude.{ℕ, ◌/◌, ◌%◌, ◌==◌, ◌&&◌, ◌||◌, nat_lt, Bool, not, if◌then◌else◌, List, [], ◌∷◌}
use Rattle.infoframe_tables.specs.Kinds.{kind_of, own_bytes, packet_byte, version_of}
use Rattle.infoframe_tables.specs.declared.kinds.FrameKind.{FrameKind}
use Rattle.infoframe_tables.specs.declared.kinds.FrameKind.TheVariants as kinds
use Rattle.infoframe_claims.specs.Bits.{has_bit}
use Rattle.infoframe_claims.specs.declared.claim.Claim.{Claim}
use Rattle.infoframe_claims.specs.declared.claim.Claim.TheVariants as claims
use Rattle.infoframe_claims.specs.declared.claim.Feature.{Feature}
use Rattle.infoframe_claims.specs.declared.claim.Feature.TheVariants as features
use Rattle.infoframe_claims.specs.declared.claim.Sound.{Sound}

abbrev pub claim_if : Bool → Claim → Claim
claim_if said claim = if said then claim else claims.Nothing

-- ---- AVI (CTA-861-H, section 6, AVI InfoFrame), by the values of its fields

-- a format by its code, of which those in YCbCr 4:2:0 (Y = 3) are listed apart
abbrev pub code_claim : ℕ → ℕ → Claim
code_claim y vic =
    if y == 3 then (if vic == 0 then claims.Chroma420 else claims.Code420 vic)
    else claim_if (nat_lt 0 vic) (claims.Code vic)

-- pixels in YCbCr
abbrev pub chroma_claim : ℕ → Claim
chroma_claim y = if y == 1 then claims.Chroma422 else claim_if (y == 2) claims.Chroma444

-- colorimetry by ACE; a reserved one claims nothing
abbrev pub additional_claim : ℕ → Claim
additional_claim ace =
    if nat_lt ace 2 then claims.Feature features.St2113
    else if ace == 2 then claims.Feature features.ICtCp
    else if ace == 3 then claims.Feature features.SRgb
    else claim_if (ace == 4) (claims.Feature features.DefaultRgb)

-- colorimetry by EC: with EC = 6 that of BT.2020 is of RGB or of YCbCr, by Y
abbrev pub extended_claim : ℕ → ℕ → ℕ → Claim
extended_claim ec y ace =
    if ec == 0 then claims.Feature features.XvYcc601
    else if ec == 1 then claims.Feature features.XvYcc709
    else if ec == 2 then claims.Feature features.SYcc601
    else if ec == 3 then claims.Feature features.OpYcc601
    else if ec == 4 then claims.Feature features.OpRgb
    else if ec == 5 then claims.Feature features.Bt2020CYcc
    else if ec == 6 then (if y == 0 then claims.Feature features.Bt2020Rgb else claims.Feature features.Bt2020Ycc)
    else additional_claim ace

-- C = 3 refers to EC; EC = 7 refers to ACE, which version 4 has
abbrev pub colorimetry_claim : ℕ → ℕ → ℕ → ℕ → ℕ → Claim
colorimetry_claim version c ec y ace = claim_if ((c == 3) && (nat_lt ec 7 || (version == 4))) (extended_claim ec y ace)

-- A range of RGB that is the format's own by default is offered by each display (section 5): full of 640x480, limited of the
-- other codes. A format without a code may be of either kind.
abbrev pub is_default : ℕ → ℕ → Bool
is_default vic q = (vic == 0) || (if vic == 1 then q == 2 else q == 1)

-- Q says the range of RGB, YQ that of YCbCr, where 0 is the default
abbrev pub range_claim : ℕ → ℕ → ℕ → ℕ → Claim
range_claim y vic q yq =
    if y == 0 then claim_if (((q == 1) || (q == 2)) && not (is_default vic q)) (claims.Feature features.RgbRange)
    else claim_if (nat_lt y 4 && (yq == 1)) (claims.Feature features.YccRange)

-- the code has seven bits in version 2
abbrev pub avi_code : List ℕ → ℕ
avi_code frame = if nat_lt (version_of frame) 3 then packet_byte frame 4 % 128 else packet_byte frame 4

abbrev pub avi_claims : List ℕ → List Claim
avi_claims frame =
    code_claim (packet_byte frame 1 / 32) (avi_code frame)
    ∷ chroma_claim (packet_byte frame 1 / 32)
    ∷ colorimetry_claim (version_of frame) (packet_byte frame 2 / 64) (packet_byte frame 3 / 16 % 8) (packet_byte frame 1 / 32) (packet_byte frame 14 / 16)
    ∷ range_claim (packet_byte frame 1 / 32) (avi_code frame) (packet_byte frame 3 / 4 % 4) (packet_byte frame 5 / 64)
    ∷ []

-- ---- Dynamic Range and Mastering (CTA-861-H, section 6, Dynamic Range and Mastering InfoFrame)

abbrev pub eotf_claim : ℕ → Claim
eotf_claim eotf =
    if eotf == 0 then claims.Feature features.GammaSdr
    else if eotf == 1 then claims.Feature features.GammaHdr
    else if eotf == 2 then claims.Feature features.St2084
    else claim_if (eotf == 3) (claims.Feature features.Hlg)

abbrev pub hdr_claims : List ℕ → List Claim
hdr_claims frame =
    eotf_claim (packet_byte frame 1 % 8) ∷ claim_if (packet_byte frame 2 % 8 == 0) (claims.Feature features.MetadataOne)
    ∷ claims.Nothing ∷ claims.Nothing ∷ []

-- ---- Audio (CTA-861-H, section 6, Audio InfoFrame): a code of 0 leaves it to the stream

abbrev pub sound_of : List ℕ → Sound
sound_of frame = record {
  coding = packet_byte frame 1 / 16;
  extension = packet_byte frame 3 % 32;
  channels = packet_byte frame 1 % 8;
  rate = packet_byte frame 2 / 4 % 8;
  size = packet_byte frame 2 % 4;
}

-- CT = 15 refers to CXT
abbrev pub tells_coding : Sound → Bool
tells_coding s = nat_lt 0 s.coding && (nat_lt s.coding 15 || nat_lt 0 s.extension)

abbrev pub sound_claims : Sound → List Claim
sound_claims s =
    claim_if (tells_coding s) (claims.Coding s) ∷ claim_if (nat_lt 0 s.channels) (claims.Channels s)
    ∷ claim_if (nat_lt 0 s.rate) (claims.Rate s) ∷ claim_if (nat_lt 0 s.size) (claims.Size s) ∷ []

-- ---- vendors

-- HDMI_Video_Format 1 refers to HDMI_VIC, 2 to 3D_Structure (HDMI 1.4b, section 8.2.3)
abbrev pub hdmi_claims : List ℕ → List Claim
hdmi_claims frame =
    claim_if (packet_byte frame 4 / 32 == 1) (claims.HdmiCode (packet_byte frame 5))
    ∷ claim_if (packet_byte frame 4 / 32 == 2) (claims.Stereo (packet_byte frame 5 / 16))
    ∷ claims.Nothing ∷ claims.Nothing ∷ []

-- 3D_Valid, ALLM_Mode and CCBPC (HDMI 2.1, HDMI Forum Vendor-Specific InfoFrame)
abbrev pub forum_claims : List ℕ → List Claim
forum_claims frame =
    claim_if (has_bit (packet_byte frame 5) 0) (claims.Stereo (packet_byte frame 6 / 16))
    ∷ claim_if (has_bit (packet_byte frame 5) 1) (claims.Feature features.Allm)
    ∷ claim_if (nat_lt 0 (packet_byte frame 5 / 16)) (claims.Feature features.ContentDepth)
    ∷ claims.Nothing ∷ []

abbrev pub no_claims : List Claim
no_claims = claims.Nothing ∷ claims.Nothing ∷ claims.Nothing ∷ claims.Nothing ∷ []

abbrev pub claims_by : FrameKind → List ℕ → List Claim
claims_by kinds.Avi frame = avi_claims frame
claims_by kinds.Audio frame = sound_claims (sound_of frame)
claims_by kinds.Hdr frame = hdr_claims frame
claims_by kinds.Hdmi frame = hdmi_claims frame
claims_by kinds.Forum frame = forum_claims frame
claims_by kinds.Vendor frame = no_claims
claims_by kinds.Other frame = no_claims

-- by the bytes that its length counts
abbrev pub claims_of : List ℕ → List Claim
claims_of frame = claims_by (kind_of frame) (own_bytes frame)
