-- The rules that an EDID is to keep, and when one is broken.
use Rattle.std.specs.Prelude.{◌==◌, Bool, false, ◌&&◌, ◌||◌, not, nat_lt, List, [], ◌∷◌, length}
use Rattle.std.specs.List.{list_any}
use Rattle.edid_base.specs.declared.base.Base.{Base}
use Rattle.edid_cta.specs.Hdmi.{is_hdmi, blocks_of}
use Rattle.edid_cta.specs.declared.block.DataBlock.{DataBlock}
use Rattle.edid_cta.specs.declared.raw.Ext.{Ext}
use Rattle.rules_values.specs.BaseParts.{is_three, some_tagged, is_empty, begins_with_timing, is_continuous, prefers_first, claims_srgb, is_srgb, is_ill_unused, has_established_vga, names_formula}
use Rattle.rules_values.specs.BlockParts.{lists_vga, is_video_capability, fixes_rgb_range, has_fast_clock, has_wrong_address, has_root_address, is_speakers, is_ill_speakers, has_multichannel_pcm}
use Rattle.rules_values.specs.ExtParts.{is_cta, begins_with_map, overscans, has_ill_padding, native_count, hides_sound, some_block, hdmi_count, has_forum_first, timings_of}
use Rattle.rules_values.specs.VideoCodes.{video_codes, repeats, has_lone_code}
use Rattle.rules_native.specs.Natives.{has_mixed_natives}
use Rattle.rules_contents.specs.Extensions.{overruns, has_other_revision, has_unknown_tag, has_wrong_section, repeats_block, has_fixed_ycc, is_override, has_misplaced_override, has_low_override}
use Rattle.rules_contents.specs.Bases.{is_ill_text, is_reserved_descriptor, is_reserved_week, is_late_year, has_other_gamma, has_reserved_input}
use Rattle.rules_contents.specs.Contents.{has_slip}
use Rattle.rules_contents.specs.declared.contents.Slip.TheVariants as slip
use Rattle.rules_link.specs.Offers.{has_format_beyond, is_of_hdmi}
use Rattle.rules_rates.specs.Formats.{has_format_outside}
use Rattle.rules_rates.specs.Limits.{has_reversed_limits}
use Rattle.rules_rates.specs.Maps.{has_past, has_slow}
use Rattle.rules_check.specs.declared.rule.Origin.{Origin}
use Rattle.rules_check.specs.declared.rule.Origin.TheVariants.{Display, Port}
use Rattle.rules_check.specs.declared.rule.Rule.{Rule}
use Rattle.rules_check.specs.declared.rule.Rule.TheVariants.{FirstTimingPreferred, PreferredTiming, ProductName, RangeLimits, LimitsAlone, LimitsOrder, Week, Srgb, NoEmptyDescriptor, UnusedStandard, BlockMap, HdmiRevision, OneSerial, Vga, VideoCodeOnce, NativeCount, NativeSize, Underscan, BasicAudio, Speakers, Padding, VideoCapability, RgbRange, TmdsClock, Address, OneHdmi, HdmiVideoCode, ForumAfterHdmi, CtaForm, CtaRevision, ExtensionTag, Block, BlockOnce, OverrideFirst, OverrideCount, MapWithinCodes, FastYcc420, YccRange, FormatsWithinLimits, FormatsNearLimits, FormatsCarried, TextForm, WeekKnown, YearKnown, SrgbGamma, InputKnown, SectionSum, DescriptorKnown}

-- all rules, in the order in which they are looked at
abbrev pub rules : List Rule
rules =
    FirstTimingPreferred ∷ PreferredTiming ∷ ProductName ∷ RangeLimits ∷ LimitsAlone ∷ LimitsOrder ∷ Week ∷ Srgb ∷ NoEmptyDescriptor ∷ UnusedStandard ∷
    BlockMap ∷ HdmiRevision ∷ OneSerial ∷ Vga ∷ VideoCodeOnce ∷ NativeCount ∷ NativeSize ∷ Underscan ∷ BasicAudio ∷ Speakers ∷ Padding ∷
    VideoCapability ∷ RgbRange ∷ TmdsClock ∷ Address ∷ OneHdmi ∷ HdmiVideoCode ∷ ForumAfterHdmi ∷
    CtaForm ∷ CtaRevision ∷ ExtensionTag ∷
    Block slip.Length ∷ BlockOnce ∷ OverrideFirst ∷ OverrideCount ∷ Block slip.Tag ∷ Block slip.AudioFormat ∷ Block slip.HdrBits ∷ Block slip.VideoCode ∷ Block slip.HdmiCode ∷ Block slip.ForumClock ∷ Block slip.ForumScdc ∷ Block slip.ForumRates ∷
    MapWithinCodes ∷ FastYcc420 ∷ YccRange ∷ Block slip.Latency ∷ FormatsWithinLimits ∷ FormatsNearLimits ∷ FormatsCarried ∷ TextForm ∷ WeekKnown ∷ YearKnown ∷ SrgbGamma ∷ InputKnown ∷ Block slip.Reserved ∷ Block slip.Bytes ∷ SectionSum ∷ DescriptorKnown ∷ []

-- an HDMI block has the address of no place in a tree, or in a port's EDID that of the root (HDMI 1.4, section 8.7.3)
abbrev pub has_ill_address : Origin → List Ext → Bool
has_ill_address Display xs = some_block has_wrong_address xs
has_ill_address Port xs = some_block has_wrong_address xs || some_block has_root_address xs

-- the first of some data blocks is the HDMI Forum's override of the count of extensions (HF-EEODB)
abbrev pub begins_overriding : List DataBlock → Bool
begins_overriding [] = false
begins_overriding (b ∷ bs) = is_override b

-- the first extension begins with it
abbrev pub begins_with_override : List Ext → Bool
begins_with_override [] = false
begins_with_override (x ∷ xs) = begins_overriding (blocks_of x)

-- a base block with these extensions, of this origin, breaks a rule
abbrev pub is_broken : Origin → Rule → Base → List Ext → Bool
-- 1.3 asks that the first timing is the preferred one (E-EDID Release A, section 3.6.4)
is_broken o FirstTimingPreferred b xs = is_three b.revision && not (prefers_first b)
-- a preferred timing is the first descriptor (section 3.10.1); 1.4 always has one (E-EDID 1.4, section 3.10.1)
is_broken o PreferredTiming b xs = (not (is_three b.revision) || prefers_first b) && not (begins_with_timing b)
-- tag FC (section 3.10.3)
is_broken o ProductName b xs = not (some_tagged 0xfc b)
-- 1.3 asks for tag FD (section 3.10.3), and 1.4 where the display takes any frequency (E-EDID 1.4, section 3.10.3.3)
is_broken o RangeLimits b xs = (is_three b.revision || is_continuous b) && not (some_tagged 0xfd b)
-- 1.4: a formula makes timings of any frequency (E-EDID 1.4, section 3.10.3.3)
is_broken o LimitsAlone b xs = not (is_three b.revision) && not (is_continuous b) && list_any names_formula b.descriptors
-- the least rate of a display is at most the greatest (section 3.10.3.3)
is_broken o LimitsOrder b xs = has_reversed_limits b
-- 1.3 has no model years and no week 54 (section 3.4.4)
is_broken o Week b xs = is_three b.revision && ((b.week == 54) || (b.week == 255))
-- the features indicate sRGB where the chromaticities are its own, and only there (section 3.6.4)
is_broken o Srgb b xs = (claims_srgb b && not (is_srgb b.chroma)) || (not (claims_srgb b) && is_srgb b.chroma)
-- an unused descriptor has the tag 10 (section 3.10.3)
is_broken o NoEmptyDescriptor b xs = list_any is_empty b.descriptors
is_broken o UnusedStandard b xs = list_any is_ill_unused b.standard
-- 1.3 asks for a block map before two and more extensions (section 4.1). Where the HDMI Forum's override counts them, block 1 is the CTA
-- block that begins with it, and no map (HDMI 2.1, section 10.3.7).
is_broken o BlockMap b xs = is_three b.revision && nat_lt 1 (length xs) && not (begins_with_map xs) && not (begins_with_override xs)
-- HDMI asks for 1.3 (HDMI 1.4, section 8.3)
is_broken o HdmiRevision b xs = not (is_three b.revision) && some_block is_hdmi xs
-- a serial number as a text leaves 0 in the four bytes (own)
is_broken o OneSerial b xs = nat_lt 0 b.serial && list_any is_cta xs && some_tagged 0xff b
-- each display of CTA-861 shows 640x480 at 60 Hz (CTA-861-D, section 3.1)
is_broken o Vga b xs = list_any is_cta xs && not (has_established_vga b) && not (some_block lists_vga xs)
-- a format is listed once (CTA-861-D, section 7.5.1); 0 is none
is_broken o VideoCodeOnce b xs = repeats (video_codes xs)
-- no more timings are native than there are (CTA-861-D, section 7.5)
is_broken o NativeCount b xs = list_any (λ x. nat_lt (length (timings_of b xs)) (native_count x)) xs
-- A display has pixels of one number, so that its native pictures are of one size, those of two fields by themselves (own; which
-- are native: CTA-861-D, sections 7.5 and 7.5.1).
is_broken o NativeSize b xs = has_mixed_natives b xs
-- formats of computers are shown whole (CTA-861-D, section 7.5)
is_broken o Underscan b xs = list_any overscans xs
-- a display that has sound takes basic audio (CTA-861-D, section 7.5)
is_broken o BasicAudio b xs = list_any hides_sound xs
-- more than two channels of linear PCM ask for the speakers, which are told in three bytes (CTA-861-D, section 7.5.3)
is_broken o Speakers b xs = (some_block has_multichannel_pcm xs && not (some_block is_speakers xs)) || some_block is_ill_speakers xs
-- zeros follow the timings (CTA-861-D, section 7.5), or whole descriptors that are not used (E-EDID Release A, section 3.10.3) and zeros
is_broken o Padding b xs = list_any has_ill_padding xs
-- a display of CTA-861 reports its video capabilities (CTA-861-D, section 7.5.6)
is_broken o VideoCapability b xs = list_any is_cta xs && not (some_block is_video_capability xs)
-- the range of RGB values can be chosen (CTA-861-D, section 7.5.6)
is_broken o RgbRange b xs = some_block fixes_rgb_range xs
is_broken o TmdsClock b xs = some_block has_fast_clock xs
is_broken o Address b xs = has_ill_address o xs
-- of several HDMI blocks the first one's address is read (own)
is_broken o OneHdmi b xs = nat_lt 1 (hdmi_count xs)
-- a format of HDMI's own codes is also listed by its video identification code (own)
is_broken o HdmiVideoCode b xs = list_any (λ x. list_any (has_lone_code (video_codes xs)) (blocks_of x)) xs
-- an HDMI Forum block comes after an HDMI block (own)
is_broken o ForumAfterHdmi b xs = list_any has_forum_first xs
-- data blocks end where the third byte says, and timings within the block (CTA-861-D, section 7.5)
is_broken o CtaForm b xs = list_any overruns xs
-- data blocks came with revision 3 (CTA-861-D, section 7.5)
is_broken o CtaRevision b xs = list_any has_other_revision xs
-- extension tags (E-EDID Release A, section 2.2.1)
is_broken o ExtensionTag b xs = list_any has_unknown_tag xs
-- a data block has a slip (each by the clause that its definition in rules_contents names)
is_broken o (Block s) b xs = some_block (has_slip s) xs
-- one block of each sort in an extension (CTA-861-G, section 7.5)
is_broken o BlockOnce b xs = list_any repeats_block xs
-- it is the first data block of the first extension (HDMI 2.1, section 10.3.7)
is_broken o OverrideFirst b xs = has_misplaced_override xs
-- it counts the extensions of byte 126 and more (HDMI 2.1, section 10.3.7)
is_broken o OverrideCount b xs = has_low_override b xs
-- bit k is for the video code k (CTA-861-G, section 7.5.11)
is_broken o MapWithinCodes b xs = some_block (has_past (length (video_codes xs))) xs
-- 4:2:0 is for pixel clocks of 590 MHz and more (HDMI 2.1, section 7.1)
is_broken o FastYcc420 b xs = some_block (has_slow (video_codes xs)) xs
-- the range of YCbCr values can be chosen (CTA-861-G, section 7.5.6)
is_broken o YccRange b xs = list_any has_fixed_ycc xs
-- a display of 1.3 shows no format outside its limits (E-EDID Release A, section 3.10.3.3)
is_broken o FormatsWithinLimits b xs = is_three b.revision && has_format_outside b xs
-- in 1.4 a format that is told of by its name holds whatever the limits are (E-EDID 1.4, section 3.10.3.3)
is_broken o FormatsNearLimits b xs = not (is_three b.revision) && has_format_outside b xs
-- a format has room on the link (HDMI 1.4b, section 8.3.2; HDMI 2.1, section 10.3.2)
is_broken o FormatsCarried b xs = is_of_hdmi b && has_format_beyond xs
-- printable characters, a line feed after fewer than 13, and then spaces (E-EDID Release A, section 3.10.3)
is_broken o TextForm b xs = list_any is_ill_text b.descriptors
-- weeks 55 to 254 are reserved (E-EDID 1.4, section 3.4.4)
is_broken o WeekKnown b xs = is_reserved_week b
-- a year after 2050 (own)
is_broken o YearKnown b xs = is_late_year b
-- the gamma of sRGB is 2.2 (IEC 61966-2-1; E-EDID Release A, section 3.6.3)
is_broken o SrgbGamma b xs = has_other_gamma b
-- bits that 1.3 reserves, and depths and interfaces that 1.4 does (E-EDID Release A and 1.4, section 3.6.1)
is_broken o InputKnown b xs = has_reserved_input b
-- the sum of the section of a DisplayID extension is 0 modulo 256 (DisplayID 1.3, section 3; DisplayID 2.1, section 3)
is_broken o SectionSum b xs = list_any has_wrong_section xs
-- a descriptor has no value that the standard reserves (E-EDID Release A, section 3.10)
is_broken o DescriptorKnown b xs = list_any is_reserved_descriptor b.descriptors
