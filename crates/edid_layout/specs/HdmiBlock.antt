-- The vendor specific data block of HDMI (HDMI VSDB: HDMI 1.4, section 8.3.2), of the bytes after its identifier and its physical
-- address: the standard's byte 6 is the first of them.
use Rattle.std.specs.Prelude.{ℕ, ◌+◌, ◌-◌, ◌*◌, ◌/◌, ◌%◌, ◌==◌, ◌&&◌, nat_le, Bool, if◌then◌else◌, Option, Some, None, List, [], length, take, drop, slice_index}
use Rattle.edid_layout.specs.declared.hdmi_block.Delay.{Delay}
use Rattle.edid_layout.specs.declared.hdmi_block.Delay.TheVariants.{Unknown, Time, Reserved, Absent}
use Rattle.edid_layout.specs.declared.hdmi_block.Latencies.{Latencies}
use Rattle.edid_layout.specs.declared.hdmi_block.HdmiVideo.{HdmiVideo}
use Rattle.edid_layout.specs.declared.hdmi_block.HdmiBlock.{HdmiBlock}

unfoldable pub has_bit : ℕ → ℕ → Bool
has_bit byte weight = byte / weight % 2 == 1

-- ---- latencies

-- 0: not known; up to 251 half the milliseconds, and 1; 255: there is no video, or no sound
unfoldable pub delay_of : ℕ → Delay
delay_of n = if n == 0 then Unknown else if nat_le n 251 then Time (2 * (n - 1)) else if n == 255 then Absent else Reserved

-- two bytes where a bit reports them and they are there
unfoldable pub latencies_in : Bool → List ℕ → Option Latencies
latencies_in reported p =
    if reported && nat_le 2 (length p) then Some (record { video = delay_of (slice_index p 0); audio = delay_of (slice_index p 1) })
    else None

-- where those of interlaced video stand: after those that bit 7 of byte 8 reports
abbrev pub interlaced_place : ℕ → ℕ
interlaced_place presence = 3 + 2 * (presence / 128 % 2)

-- ---- video: after the latencies of interlaced video, which bit 6 of byte 8 reports

abbrev pub video_place : ℕ → ℕ
video_place presence = interlaced_place presence + 2 * (presence / 64 % 2)

unfoldable pub video_bytes : List ℕ → List ℕ
video_bytes p = drop (video_place (slice_index p 2)) p

-- a byte of flags, and one of two counts, where a bit reports them and they are there
unfoldable pub video_of : Bool → List ℕ → Option HdmiVideo
video_of reported p =
    if reported && nat_le 2 (length p) then Some (record {
      has_stereo = has_bit (slice_index p 0) 128;
      multi = slice_index p 0 / 32 % 4;
      image_size = slice_index p 0 / 8 % 4;
      reserved = slice_index p 0 % 8;
      codes = slice_index p 1 / 32;
      stereo = slice_index p 1 % 32;
    })
    else None

-- after them HDMI's own codes, so many of them as there are
unfoldable pub listed_codes : HdmiVideo → List ℕ → List ℕ
listed_codes v p = take v.codes (drop 2 p)

-- and what is told of 3D, and what is left after that
unfoldable pub after_codes : HdmiVideo → List ℕ → List ℕ
after_codes v p = drop (2 + v.codes) p

unfoldable pub stereo_bytes : HdmiVideo → List ℕ → List ℕ
stereo_bytes v p = take v.stereo (after_codes v p)

unfoldable pub left_bytes : HdmiVideo → List ℕ → List ℕ
left_bytes v p = drop v.stereo (after_codes v p)

-- the video identification code of the format that a code of HDMI's own stands for (HDMI 1.4, section 8.2.3); 0 for a code that
-- stands for none
abbrev pub code_of_hdmi : ℕ → ℕ
code_of_hdmi hdmi =
    if hdmi == 1 then 95 else if hdmi == 2 then 94 else if hdmi == 3 then 93 else if hdmi == 4 then 98 else 0

-- ---- all of it: a byte past the end is 0

unfoldable pub hdmi_block : List ℕ → HdmiBlock
hdmi_block p = record {
  supports_ai = has_bit (slice_index p 0) 128;
  deep_colours = slice_index p 0 / 16 % 8;
  has_deep_444 = has_bit (slice_index p 0) 8;
  reserved = slice_index p 0 / 2 % 4 * 2;
  has_dual_link = has_bit (slice_index p 0) 1;
  max_clock = slice_index p 1;
  contents = slice_index p 2 % 32;
  latencies = latencies_in (has_bit (slice_index p 2) 128) (drop 3 p);
  interlaced_latencies = latencies_in (has_bit (slice_index p 2) 64) (drop (interlaced_place (slice_index p 2)) p);
  video = video_of (has_bit (slice_index p 2) 32) (video_bytes p);
}
