-- What the rules ask of what stands in a data block (CTA-861-G, section 7.5, unless another is named).
use Rattle.std.specs.Prelude.{ℕ, ◌+◌, ◌/◌, ◌%◌, ◌==◌, Bool, true, false, ◌&&◌, ◌||◌, not, nat_lt, if◌then◌else◌, Option, Some, None, List, [], ◌∷◌, length, slice_index, drop}
use Rattle.std.specs.List.{list_any}
use Rattle.edid_tables.specs.Layouts.{cut_of, has_reserved, left_of}
use Rattle.edid_cta.specs.Audio.{is_audio}
use Rattle.edid_cta.specs.Hdmi.{is_hdmi}
use Rattle.edid_cta.specs.declared.block.DataBlock.{DataBlock}
use Rattle.edid_cta.specs.declared.block.BlockKind.{BlockKind}
use Rattle.edid_cta.specs.declared.block.BlockKind.TheVariants.{Tag0}
use Rattle.rules_values.specs.BlockParts.{is_extended_kind, is_video_kind, is_speakers, is_ill_speakers, is_forum, hdmi_of, hdmi_codes}
use Rattle.edid_layout.specs.ForumBlock.{forum_block}
use Rattle.edid_layout.specs.declared.forum_block.ForumBlock.{ForumBlock}
use Rattle.edid_layout.specs.declared.hdmi_block.Delay.{Delay}
use Rattle.edid_layout.specs.declared.hdmi_block.Delay.TheVariants.{Time}
use Rattle.edid_layout.specs.declared.hdmi_block.Latencies.{Latencies}
use Rattle.rules_contents.specs.declared.contents.Sort.{Sort}
use Rattle.rules_contents.specs.declared.contents.Sort.TheVariants.{VideoCapability, Colorimetry, HdrStatic, Map, Speakers, Forum}
use Rattle.rules_contents.specs.declared.contents.Slip.{Slip}
use Rattle.rules_contents.specs.declared.contents.Slip.TheVariants.{Length, Tag, AudioFormat, HdrBits, VideoCode, HdmiCode, ForumClock, ForumScdc, ForumRates, Latency, Reserved, Bytes}

-- ---- which block it is

-- an extended block with this tag (table 56)
abbrev pub has_extended_tag : ℕ → DataBlock → Bool
has_extended_tag tag b = is_extended_kind b.kind && nat_lt 0 (length b.payload.items) && (slice_index b.payload.items 0 == tag)

-- a vendor block of the HDMI Forum, or its block of sink capabilities (HDMI 2.1, sections 10.3.2 and 10.3.6)
abbrev pub is_forum_block : DataBlock → Bool
is_forum_block b = is_forum b || has_extended_tag 0x79 b

abbrev pub is_of_sort : Sort → DataBlock → Bool
is_of_sort VideoCapability b = has_extended_tag 0x00 b
is_of_sort Colorimetry b = has_extended_tag 0x05 b
is_of_sort HdrStatic b = has_extended_tag 0x06 b
is_of_sort Map b = has_extended_tag 0x0f b
is_of_sort Speakers b = is_speakers b
is_of_sort Forum b = is_forum_block b

-- ---- lengths

-- the least bytes of an extended block, its tag among them: one follows in video capability, two in colorimetry (section 7.5.5) and HDR (section 7.5.13)
abbrev pub least_length : ℕ → ℕ
least_length tag = if tag == 0x00 then 2 else if (tag == 0x05) || (tag == 0x06) then 3 else 1

-- three bytes an audio format (section 7.5.2)
abbrev pub has_ill_length : DataBlock → Bool
has_ill_length b =
    (is_audio b && not (length b.payload.items % 3 == 0)) ||
    (is_extended_kind b.kind && nat_lt (length b.payload.items) (least_length (slice_index b.payload.items 0)))

-- ---- reserved values

abbrev pub is_tag_zero : BlockKind → Bool
is_tag_zero Tag0 = true
is_tag_zero _ = false

-- bits 6 to 3 of the first of the three bytes of a format are its code, and 0 is reserved (table 34)
abbrev pub lists_format_zero : List ℕ → Bool
lists_format_zero [] = false
lists_format_zero (first ∷ []) = false
lists_format_zero (first ∷ second ∷ []) = false
lists_format_zero (first ∷ second ∷ third ∷ more) = (first / 8 % 16 == 0) || lists_format_zero more

abbrev pub has_format_zero : DataBlock → Bool
has_format_zero b = is_audio b && lists_format_zero b.payload.items

-- bits 4 to 7 of the transfer functions, and 1 to 7 of the metadata's types (section 7.5.13)
abbrev pub has_reserved_hdr : DataBlock → Bool
has_reserved_hdr b = has_extended_tag 0x06 b && (nat_lt 15 (slice_index b.payload.items 1) || nat_lt 1 (slice_index b.payload.items 2))

-- the greatest code of a format is 219 (table 3)
abbrev pub is_reserved_code : ℕ → Bool
is_reserved_code code = nat_lt 219 code

-- in a video block, and in a block of formats in 4:2:0 alone (section 7.5.10)
abbrev pub has_reserved_code : DataBlock → Bool
has_reserved_code b =
    (is_video_kind b.kind && list_any is_reserved_code b.payload.items) ||
    (has_extended_tag 0x0e b && list_any is_reserved_code (drop 1 b.payload.items))

-- the codes of HDMI's own are 1 to 4 (HDMI 1.4, section 8.2.3)
abbrev pub is_reserved_hdmi : ℕ → Bool
is_reserved_hdmi code = (code == 0) || nat_lt 4 code

abbrev pub has_reserved_hdmi : DataBlock → Bool
has_reserved_hdmi b = is_hdmi b && list_any is_reserved_hdmi (hdmi_codes b.payload.items)

-- ---- the HDMI Forum's capabilities (HDMI 2.1, section 10.3.2)

-- from the version on, which stands after three bytes of the vendor's, or of the tag's
abbrev pub forum_of : DataBlock → ForumBlock
forum_of b = forum_block (drop 3 b.payload.items)

-- in units of 5 MHz: 0, where it is at most 340 MHz, else above that and at most 600 MHz
abbrev pub is_ill_clock : ℕ → Bool
is_ill_clock clock = (nat_lt 0 clock && nat_lt clock 69) || nat_lt 120 clock

abbrev pub has_ill_clock : DataBlock → Bool
has_ill_clock b = is_forum_block b && is_ill_clock (forum_of b).max_rate

-- a fixed rate link is set up by SCDC
abbrev pub lacks_scdc : DataBlock → Bool
lacks_scdc b = is_forum_block b && nat_lt 0 (forum_of b).fixed_rate && not (forum_of b).has_scdc

-- the least rate is at most 48 Hz; the greatest is 0, or 100 Hz and more with a least one
abbrev pub are_ill_rates : ℕ → ℕ → Bool
are_ill_rates least most = nat_lt 48 least || (nat_lt 0 most && (nat_lt most 100 || (least == 0)))

abbrev pub has_ill_rates : DataBlock → Bool
has_ill_rates b = is_forum_block b && are_ill_rates (forum_of b).least_refresh (forum_of b).greatest_refresh

-- ---- latencies (HDMI 1.4, section 8.3.2)

-- sound is late by more than 20 ms
abbrev pub comes_after : ℕ → Delay → Bool
comes_after video (Time audio) = nat_lt (video + 20) audio
comes_after video other = false

abbrev pub is_late : Delay → Delay → Bool
is_late (Time video) audio = comes_after video audio
is_late other audio = false

abbrev pub has_late : Option Latencies → Bool
has_late None = false
has_late (Some l) = is_late l.video l.audio

-- latencies of interlaced video come with those of the other
abbrev pub are_late : Option Latencies → Option Latencies → Bool
are_late None interlaced = false
are_late (Some l) interlaced = is_late l.video l.audio || has_late interlaced

abbrev pub has_late_sound : DataBlock → Bool
has_late_sound b = is_hdmi b && are_late (hdmi_of b).latencies (hdmi_of b).interlaced_latencies

-- ---- reserved values and lengths of any block that has a table (the clauses are those of the tables of edid_tables)

-- a rule of its own names the reserved value
abbrev pub is_named_reserved : DataBlock → Bool
is_named_reserved b = has_format_zero b || has_reserved_hdr b || has_reserved_code b || has_reserved_hdmi b

abbrev pub has_other_reserved : DataBlock → Bool
has_other_reserved b = has_reserved b && not (is_named_reserved b)

-- a rule of its own names the length
abbrev pub is_named_length : DataBlock → Bool
is_named_length b = has_ill_length b || is_ill_speakers b

-- bytes are missing, or left over
abbrev pub is_cut_or_left : DataBlock → Bool
is_cut_or_left b = nat_lt 0 (cut_of b) || nat_lt 0 (left_of b)

abbrev pub has_other_length : DataBlock → Bool
has_other_length b = is_cut_or_left b && not (is_named_length b)

-- ---- all of them

abbrev pub has_slip : Slip → DataBlock → Bool
has_slip Length b = has_ill_length b
has_slip Tag b = is_tag_zero b.kind
has_slip AudioFormat b = has_format_zero b
has_slip HdrBits b = has_reserved_hdr b
has_slip VideoCode b = has_reserved_code b
has_slip HdmiCode b = has_reserved_hdmi b
has_slip ForumClock b = has_ill_clock b
has_slip ForumScdc b = lacks_scdc b
has_slip ForumRates b = has_ill_rates b
has_slip Latency b = has_late_sound b
has_slip Reserved b = has_other_reserved b
has_slip Bytes b = has_other_length b
