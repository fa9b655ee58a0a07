-- The video identification codes that an EDID lists (CTA-861-D, section 7.5.1), and those of HDMI (HDMI 1.4, section 8.2.3).
use Rattle.std.specs.Prelude.{ℕ, ◌-◌, ◌==◌, Bool, false, ◌&&◌, ◌||◌, not, nat_lt, if◌then◌else◌, List, [], ◌∷◌, map, flat_map}
use Rattle.std.specs.List.{list_any}
use Rattle.edid_cta.specs.Hdmi.{is_hdmi, blocks_of}
use Rattle.edid_cta.specs.declared.block.DataBlock.{DataBlock}
use Rattle.edid_cta.specs.declared.raw.Ext.{Ext}
use Rattle.edid_layout.specs.HdmiBlock.{code_of_hdmi}
use Rattle.rules_values.specs.BlockParts.{is_video_kind, hdmi_codes}

-- 129 to 192 are the codes 1 to 64, marked as native
abbrev pub code_of : ℕ → ℕ
code_of svd = if nat_lt 128 svd && nat_lt svd 193 then svd - 128 else svd

-- the bytes of a video data block: short video descriptors
abbrev pub block_svds : DataBlock → List ℕ
block_svds b = if is_video_kind b.kind then b.payload.items else []

abbrev pub ext_svds : Ext → List ℕ
ext_svds x = flat_map block_svds (blocks_of x)

-- the bytes of all video data blocks
abbrev pub svds_of : List Ext → List ℕ
svds_of xs = flat_map ext_svds xs

-- the codes of all video data blocks
abbrev pub video_codes : List Ext → List ℕ
video_codes xs = map code_of (svds_of xs)

abbrev pub has_code : List ℕ → ℕ → Bool
has_code codes code = list_any (λ c. c == code) codes

-- a code stands more than once; 0 is the code of no format (CTA-861-D, section 4.1, table 3)
abbrev pub repeats : List ℕ → Bool
repeats [] = false
repeats (code ∷ codes) = (nat_lt 0 code && has_code codes code) || repeats codes

-- a code of HDMI's own stands for a format whose video identification code is not listed
abbrev pub is_lone : List ℕ → ℕ → Bool
is_lone codes hdmi = nat_lt 0 (code_of_hdmi hdmi) && not (has_code codes (code_of_hdmi hdmi))

abbrev pub has_lone_code : List ℕ → DataBlock → Bool
has_lone_code codes b = is_hdmi b && list_any (is_lone codes) (hdmi_codes b.payload.items)
