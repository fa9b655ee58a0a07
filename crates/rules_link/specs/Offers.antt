-- The formats that an EDID offers with a clock: video codes (CTA-861-G, section 7.5.1), those in 4:2:0 alone (section 7.5.10), HDMI's own
-- (HDMI 1.4b, section 8.2.3), detailed timings (E-EDID Release A, section 3.10.2), and formats of DisplayID. A code that the 4:2:0 map marks is there in RGB
-- too (CTA-861-G, section 7.5.11). Established timings are slower than any link. Standard timings have no clock of their own.
use Rattle.std.specs.Prelude.{ℕ, ◌+◌, ◌*◌, ◌%◌, ◌==◌, Bool, true, false, ◌&&◌, ◌||◌, nat_le, if◌then◌else◌, List, drop, Option, Some, None}
use Rattle.std.specs.List.{list_any}
use Rattle.edid_base.specs.declared.base.Base.{Base}
use Rattle.edid_base.specs.declared.timing.Timing.{Timing}
use Rattle.edid_cta.specs.Hdmi.{is_hdmi}
use Rattle.edid_cta.specs.declared.block.DataBlock.{DataBlock}
use Rattle.edid_cta.specs.declared.raw.Ext.{Ext}
use Rattle.edid_displayid.specs.Formats.{typed_formats}
use Rattle.edid_displayid.specs.declared.timing.TypedFormat.{TypedFormat}
use Rattle.edid_displayid.specs.declared.timing.TypedFormat.TheVariants.{Timing as OfTiming, Code as OfCode}
use Rattle.edid_displayid.specs.declared.timing.TypedTiming.{TypedTiming}
use Rattle.edid_layout.specs.HdmiBlock.{code_of_hdmi}
use Rattle.meaning_words.specs.Formats.{format_of}
use Rattle.meaning_words.specs.declared.formats.VideoFormat.{VideoFormat}
use Rattle.rules_contents.specs.Contents.{has_extended_tag}
use Rattle.rules_link.specs.Links.{is_beyond}
use Rattle.rules_link.specs.declared.load.Load.{Load}
use Rattle.rules_rates.specs.Paces.{pace_of}
use Rattle.rules_rates.specs.declared.pace.Pace.{Pace}
use Rattle.rules_values.specs.BaseParts.{is_three}
use Rattle.rules_values.specs.BlockParts.{hdmi_codes}
use Rattle.rules_values.specs.ExtParts.{some_block}
use Rattle.rules_values.specs.VideoCodes.{code_of, video_codes}

-- ---- whose link it is

-- A digital input, bit 7, whose interface is HDMI's: in 1.4 the low four bits say so by 2 and 3, and nothing by 0; in 1.3 they say nothing
-- (E-EDID Release A and 1.4, section 3.6.1). An HDMI block also stands in EDIDs of DisplayPort.
abbrev pub is_of_hdmi : Base → Bool
is_of_hdmi b = nat_le 128 b.input && (is_three b.revision || (b.input % 16 == 0) || (b.input % 16 == 2) || (b.input % 16 == 3))

-- ---- codes

abbrev pub width_of : Option VideoFormat → ℕ
width_of None = 0
width_of (Some f) = f.width

abbrev pub load_by : Bool → Option Pace → ℕ → Option Load
load_by halved None width = None
load_by halved (Some p) width = Some (record { clock = p.clock; width = width; pixels = p.pixels; is_halved = halved })

-- of a video code, in 4:2:0 alone or not
abbrev pub load_of : Bool → ℕ → Option Load
load_of halved code = load_by halved (pace_of code) (width_of (format_of code))

abbrev pub is_some_beyond : List Ext → Option Load → Bool
is_some_beyond xs None = false
is_some_beyond xs (Some l) = is_beyond xs l

abbrev pub is_code_beyond : List Ext → Bool → ℕ → Bool
is_code_beyond xs halved code = is_some_beyond xs (load_of halved code)

-- a data block offers formats in 4:2:0 alone, or of HDMI's own, that its link has no room for
abbrev pub offers_beyond : List Ext → DataBlock → Bool
offers_beyond xs b =
    (has_extended_tag 0x0e b && list_any (λ svd. is_code_beyond xs true (code_of svd)) (drop 1 b.payload.items)) ||
    (is_hdmi b && list_any (λ code. is_code_beyond xs false (code_of_hdmi code)) (hdmi_codes b.payload.items))

abbrev pub has_code_beyond : List Ext → Bool
has_code_beyond xs = list_any (is_code_beyond xs false) (video_codes xs) || some_block (offers_beyond xs) xs

-- ---- detailed timings

-- the clock is in units of 10 kHz
abbrev pub timing_load : Timing → Load
timing_load t = record { clock = t.clock * 10; width = t.horizontal_active; pixels = t.horizontal_active + t.horizontal_blanking; is_halved = false }

abbrev pub is_timing_beyond : List Ext → Timing → Bool
is_timing_beyond xs t = is_beyond xs (timing_load t)

-- ---- formats of DisplayID

-- of one whose clock has 2 ^ 32 kHz, or whose line has more than 65,535 pixels, nothing is known (own)
abbrev pub has_known_width : TypedTiming → Bool
has_known_width t = nat_le t.clock 4294967295 && nat_le t.width 65535 && nat_le t.pixels 65535

abbrev pub typed_timing_load : TypedTiming → Option Load
typed_timing_load t =
    if has_known_width t then Some (record { clock = t.clock; width = t.width; pixels = t.pixels; is_halved = false }) else None

-- one that is there in 4:2:0 too has its whole clock
abbrev pub typed_load : TypedFormat → Option Load
typed_load (OfTiming t) = typed_timing_load t
typed_load (OfCode code) = load_of false code

abbrev pub is_typed_beyond : List Ext → TypedFormat → Bool
is_typed_beyond xs f = is_some_beyond xs (typed_load f)

abbrev pub has_typed_beyond : List Ext → Bool
has_typed_beyond xs = list_any (is_typed_beyond xs) (typed_formats xs)

-- ---- all but detailed timings

abbrev pub has_format_beyond : List Ext → Bool
has_format_beyond xs = has_code_beyond xs || has_typed_beyond xs
