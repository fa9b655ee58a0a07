-- Where a data block says that a display has a feature.
use Rattle.std.specs.Prelude.{ℕ, ◌==◌, ◌&&◌, ◌||◌, nat_lt, Bool, length, slice_index}
use Rattle.edid_cta.specs.declared.block.DataBlock.{DataBlock}
use Rattle.rules_values.specs.BlockParts.{is_extended_kind, is_forum}
use Rattle.infoframe_claims.specs.Bits.{has_bit}
use Rattle.infoframe_claims.specs.declared.claim.Feature.{Feature}
use Rattle.infoframe_claims.specs.declared.claim.Feature.TheVariants.{XvYcc601, XvYcc709, SYcc601, OpYcc601, OpRgb, Bt2020CYcc, Bt2020Ycc, Bt2020Rgb, St2113, ICtCp, SRgb, DefaultRgb, RgbRange, YccRange, GammaSdr, GammaHdr, St2084, Hlg, MetadataOne, Allm, ContentDepth}
use Rattle.infoframe_claims.specs.declared.features.Spot.{Spot}

abbrev pub placed : ℕ → ℕ → ℕ → Spot
placed tag byte bit = record { tag = tag; byte = byte; bit = bit }

-- Extended tag, byte of the payload, and bit: colorimetry (tag 5: CTA-861-H, section 7.5.5), video capability (tag 0: section 7.5.6),
-- static metadata of HDR (tag 6: section 7.5.13), and the capabilities of the HDMI Forum (tag 121: HDMI 2.1, sections 10.3.2 and 10.3.6)
abbrev pub spot_of : Feature → Spot
spot_of XvYcc601 = placed 5 1 0
spot_of XvYcc709 = placed 5 1 1
spot_of SYcc601 = placed 5 1 2
spot_of OpYcc601 = placed 5 1 3
spot_of OpRgb = placed 5 1 4
spot_of Bt2020CYcc = placed 5 1 5
spot_of Bt2020Ycc = placed 5 1 6
spot_of Bt2020Rgb = placed 5 1 7
spot_of St2113 = placed 5 2 7
spot_of ICtCp = placed 5 2 6
spot_of SRgb = placed 5 2 5
spot_of DefaultRgb = placed 5 2 4
spot_of RgbRange = placed 0 1 6
spot_of YccRange = placed 0 1 7
spot_of GammaSdr = placed 6 1 0
spot_of GammaHdr = placed 6 1 1
spot_of St2084 = placed 6 1 2
spot_of Hlg = placed 6 1 3
spot_of MetadataOne = placed 6 2 0
spot_of Allm = placed 121 7 1
spot_of ContentDepth = placed 121 5 4

-- a data block with an extended tag
abbrev pub has_tag : ℕ → DataBlock → Bool
has_tag tag b = is_extended_kind b.kind && nat_lt 0 (length b.payload.items) && (slice_index b.payload.items 0 == tag)

-- The HDMI Forum's capabilities stand in its vendor block too, whose identifier has the three bytes of the extended tag and of two
-- reserved bytes.
abbrev pub has_spot : Spot → DataBlock → Bool
has_spot s b = (has_tag s.tag b || ((s.tag == 121) && is_forum b)) && has_bit (slice_index b.payload.items s.byte) s.bit

abbrev pub has_feature : Feature → DataBlock → Bool
has_feature f b = has_spot (spot_of f) b
