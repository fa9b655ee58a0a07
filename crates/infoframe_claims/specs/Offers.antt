-- Whether a display offers what an InfoFrame claims.
use Rattle.std.specs.Prelude.{ℕ, ◌&&◌, ◌||◌, Bool, true, false, List}
use Rattle.std.specs.List.{list_any}
use Rattle.edid_base.specs.declared.base.Base.{Base}
use Rattle.edid_cta.specs.Audio.{is_audio}
use Rattle.edid_cta.specs.Hdmi.{blocks_of}
use Rattle.edid_cta.specs.declared.block.DataBlock.{DataBlock}
use Rattle.edid_cta.specs.declared.raw.Ext.{Ext}
use Rattle.edid_cta.specs.declared.raw.Ext.TheVariants.{Cta, Bare, Raw}
use Rattle.infoframe_claims.specs.Bits.{has_bit}
use Rattle.infoframe_claims.specs.Codes.{has_timing, lists_420, lists_code, lists_hdmi, some_map}
use Rattle.infoframe_claims.specs.Features.{has_feature, has_tag}
use Rattle.infoframe_claims.specs.Sounds.{basic_audio, some_take, takes}
use Rattle.infoframe_claims.specs.Stereo.{takes_structure}
use Rattle.infoframe_claims.specs.declared.claim.Claim.{Claim}
use Rattle.infoframe_claims.specs.declared.claim.Claim.TheVariants.{Nothing, Code, Code420, Chroma420, Chroma422, Chroma444, Feature, Coding, Channels, Rate, Size, HdmiCode, Stereo}

-- audio
abbrev pub sounds_offer : Claim → DataBlock → Bool
sounds_offer claim b = is_audio b && some_take claim b.payload.items

-- a data block says so
abbrev pub block_offers : Claim → DataBlock → Bool
block_offers Nothing b = false
block_offers (Code code) b = lists_code code b
block_offers (Code420 code) b = lists_420 code b
block_offers Chroma420 b = has_tag 14 b || has_tag 15 b
block_offers Chroma422 b = false
block_offers Chroma444 b = false
block_offers (Feature f) b = has_feature f b
block_offers (Coding s) b = sounds_offer (Coding s) b
block_offers (Channels s) b = sounds_offer (Channels s) b
block_offers (Rate s) b = sounds_offer (Rate s) b
block_offers (Size s) b = sounds_offer (Size s) b
block_offers (HdmiCode code) b = lists_hdmi code b
block_offers (Stereo s) b = takes_structure s b

-- the flags of an extension say so: bit 6 basic audio, bit 5 YCbCr 4:4:4, bit 4 YCbCr 4:2:2 (CTA-861-G, table 52)
abbrev pub flags_of : Ext → ℕ
flags_of (Cta c) = c.flags
flags_of (Bare b) = b.flags
flags_of (Raw r) = 0

abbrev pub flags_offer : Claim → ℕ → Bool
flags_offer Chroma422 flags = has_bit flags 4
flags_offer Chroma444 flags = has_bit flags 5
flags_offer claim flags = has_bit flags 6 && takes claim basic_audio

abbrev pub ext_offers : Claim → Ext → Bool
ext_offers claim x = flags_offer claim (flags_of x) || list_any (block_offers claim) (blocks_of x)

-- what several blocks say together, or each display offers
abbrev pub whole_offers : Claim → Base → List Ext → Bool
whole_offers Nothing b xs = true
whole_offers (Code code) b xs = has_timing code b xs
whole_offers (Code420 code) b xs = some_map xs code
whole_offers _ b xs = false

abbrev pub is_offered : Claim → Base → List Ext → Bool
is_offered claim b xs = list_any (ext_offers claim) xs || whole_offers claim b xs
