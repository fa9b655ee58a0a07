-- What the rules ask of data blocks (CTA-861-D, section 7.5) and of HDMI's vendor specific data block (VSDB: HDMI 1.4,
-- section 8.3.2).
use Rattle.std.specs.Prelude.{ℕ, ◌/◌, ◌%◌, ◌==◌, Bool, true, false, ◌&&◌, ◌||◌, not, nat_lt, nat_le, Option, Some, None, List, [], ◌∷◌, length, slice_index, drop}
use Rattle.std.specs.List.{list_any}
use Rattle.edid_cta.specs.Audio.{is_audio}
use Rattle.edid_cta.specs.Hdmi.{is_hdmi, is_vendor, phys_at}
use Rattle.edid_cta.specs.declared.block.DataBlock.{DataBlock}
use Rattle.edid_cta.specs.declared.block.BlockKind.{BlockKind}
use Rattle.edid_cta.specs.declared.block.BlockKind.TheVariants.{Video, Speakers, Extended}
use Rattle.edid_layout.specs.ForumBlock.{identifier}
use Rattle.edid_layout.specs.HdmiBlock.{hdmi_block, listed_codes, video_bytes}
use Rattle.edid_layout.specs.declared.hdmi_block.HdmiBlock.{HdmiBlock}
use Rattle.edid_layout.specs.declared.hdmi_block.HdmiVideo.{HdmiVideo}
use Rattle.rules_values.specs.declared.block_parts.Sought.{Sought}
use Rattle.rules_values.specs.declared.block_parts.Sought.TheVariants as sought

-- ---- video

abbrev pub is_video_kind : BlockKind → Bool
is_video_kind Video = true
is_video_kind _ = false

-- the code of 640x480 at 60 Hz, native or not (CTA-861-D, section 4.1, table 3, and section 7.5.1)
abbrev pub is_vga_code : ℕ → Bool
is_vga_code svd = (svd == 1) || (svd == 129)

abbrev pub lists_vga : DataBlock → Bool
lists_vga b = is_video_kind b.kind && list_any is_vga_code b.payload.items

abbrev pub is_extended_kind : BlockKind → Bool
is_extended_kind Extended = true
is_extended_kind _ = false

-- extended tag 0 (CTA-861-D, section 7.5.6)
abbrev pub is_video_capability : DataBlock → Bool
is_video_capability b = is_extended_kind b.kind && nat_lt 0 (length b.payload.items) && (slice_index b.payload.items 0 == 0)

-- bit 6 of its byte: the range of RGB values can be chosen
abbrev pub fixes_rgb_range : DataBlock → Bool
fixes_rgb_range b = is_video_capability b && nat_lt 1 (length b.payload.items) && (slice_index b.payload.items 1 / 64 % 2 == 0)

-- ---- sound

abbrev pub is_speakers_kind : BlockKind → Bool
is_speakers_kind Speakers = true
is_speakers_kind _ = false

abbrev pub is_speakers : DataBlock → Bool
is_speakers b = is_speakers_kind b.kind

-- its payload is three bytes (CTA-861-D, section 7.5.3)
abbrev pub is_ill_speakers : DataBlock → Bool
is_ill_speakers b = is_speakers b && not (length b.payload.items == 3)

-- extended tags 17 to 20: a vendor's audio, HDMI's audio, the room and the places of speakers (CTA-861-G, section 7.5)
abbrev pub is_extended_audio : DataBlock → Bool
is_extended_audio b =
    is_extended_kind b.kind && nat_lt 0 (length b.payload.items) && nat_le 17 (slice_index b.payload.items 0) && nat_le (slice_index b.payload.items 0) 20

abbrev pub is_sound : DataBlock → Bool
is_sound b = is_audio b || is_speakers b || is_extended_audio b

-- the first byte of a format: bits 6 to 3 are 1 for linear PCM, and the low three bits are the channels less 1 (CTA-861-D, section 7.5.2)
abbrev pub is_multichannel_pcm : ℕ → Bool
is_multichannel_pcm first = (first / 8 % 16 == 1) && nat_lt 1 (first % 8)

-- three bytes a format
abbrev pub lists_multichannel_pcm : List ℕ → Bool
lists_multichannel_pcm [] = false
lists_multichannel_pcm (first ∷ []) = false
lists_multichannel_pcm (first ∷ second ∷ []) = false
lists_multichannel_pcm (first ∷ second ∷ third ∷ more) = is_multichannel_pcm first || lists_multichannel_pcm more

abbrev pub has_multichannel_pcm : DataBlock → Bool
has_multichannel_pcm b = is_audio b && lists_multichannel_pcm b.payload.items

-- ---- HDMI

-- what an HDMI block says after its identifier and its address, of five bytes
abbrev pub hdmi_of : DataBlock → HdmiBlock
hdmi_of b = hdmi_block (drop 5 b.payload.items)

-- in units of 5 MHz: at most 340 MHz (HDMI 1.4, section 8.3.2)
abbrev pub has_fast_clock : DataBlock → Bool
has_fast_clock b = is_hdmi b && nat_lt 68 (hdmi_of b).max_clock

-- a port after no port
abbrev pub is_hole : ℕ → ℕ → Bool
is_hole first second = (first == 0) && nat_lt 0 second

-- F.F.F.F, or a path that goes on after its end (HDMI 1.4, section 8.7.2)
abbrev pub is_off_tree : ℕ → ℕ → Bool
is_off_tree high low =
    ((high == 255) && (low == 255)) || is_hole (high / 16) (high % 16) || is_hole (high % 16) (low / 16) || is_hole (low / 16) (low % 16)

abbrev pub has_wrong_address : DataBlock → Bool
has_wrong_address b = is_hdmi b && is_off_tree (phys_at b.payload.items).high (phys_at b.payload.items).low

-- 0.0.0.0, the address of the root of a tree (HDMI 1.4, section 8.7.2)
abbrev pub has_root_address : DataBlock → Bool
has_root_address b = is_hdmi b && ((phys_at b.payload.items).high == 0) && ((phys_at b.payload.items).low == 0)

-- the vendor block of the HDMI Forum, by its identifier
abbrev pub is_forum : DataBlock → Bool
is_forum b = is_vendor b.kind && (identifier b.payload.items == 0xc45dd8)

-- a block of the HDMI Forum has no HDMI block before it (own)
abbrev pub begins_with_forum : List DataBlock → Bool
begins_with_forum [] = false
begins_with_forum (b ∷ bs) = not (is_hdmi b) && (is_forum b || begins_with_forum bs)

-- the codes of HDMI's own, of the bytes from the video formats on
abbrev pub codes_from : Option HdmiVideo → List ℕ → List ℕ
codes_from None p = []
codes_from (Some v) p = listed_codes v p

-- in the payload of an HDMI block
abbrev pub hdmi_codes : List ℕ → List ℕ
hdmi_codes payload = codes_from (hdmi_block (drop 5 payload)).video (video_bytes (drop 5 payload))

-- ---- all of them

-- a data block is what a rule looks for
abbrev pub is_sought : Sought → DataBlock → Bool
is_sought sought.Hdmi = is_hdmi
is_sought sought.Vga = lists_vga
is_sought sought.VideoCapability = is_video_capability
is_sought sought.FixedRgbRange = fixes_rgb_range
is_sought sought.FastClock = has_fast_clock
is_sought sought.WrongAddress = has_wrong_address
is_sought sought.RootAddress = has_root_address
is_sought sought.Sound = is_sound
is_sought sought.Speakers = is_speakers
is_sought sought.IllSpeakers = is_ill_speakers
is_sought sought.MultichannelPcm = has_multichannel_pcm
