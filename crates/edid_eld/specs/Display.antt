-- What an ELD says of a display: of its base block and of its extensions of CTA-861, as `drm_edid_to_eld` of Linux has it.
use Rattle.std.specs.Prelude.{ℕ, ◌-◌, ◌*◌, ◌/◌, ◌%◌, ◌==◌, Bool, false, true, ◌&&◌, ◌||◌, not, nat_le, min, List, [], ◌∷◌, length, slice_index, take, drop, flat_map, replicate, if◌then◌else◌}
use Rattle.std.specs.List.{list_any, prefix_len}
use Rattle.edid_base.specs.Descriptor.{descriptor_bytes}
use Rattle.edid_base.specs.Maker.{maker_bytes}
use Rattle.edid_base.specs.declared.base.Base.{Base}
use Rattle.edid_base.specs.declared.descriptor.Descriptor.{Descriptor}
use Rattle.edid_cta.specs.Audio.{is_audio}
use Rattle.edid_cta.specs.Hdmi.{blocks_of, is_hdmi}
use Rattle.edid_cta.specs.declared.block.BlockKind.{BlockKind}
use Rattle.edid_cta.specs.declared.block.BlockKind.TheVariants.{Speakers}
use Rattle.edid_cta.specs.declared.block.DataBlock.{DataBlock}
use Rattle.edid_cta.specs.declared.raw.Ext.{Ext}
use Rattle.edid_cta.specs.declared.raw.Ext.TheVariants.{Cta, Bare, Raw}
use Rattle.edid_eld.specs.Eld.{Parts}
use Rattle.edid_eld.specs.declared.codes.Connection.{Connection}
use Rattle.edid_eld.specs.declared.codes.EldVersion.TheVariants.{Cta861D}

-- the first, or the last, of these, and else the one given
abbrev pub first_of : ℕ → List ℕ → ℕ
first_of other [] = other
first_of other (x ∷ xs) = x

abbrev pub last_of : {A : Type 0} → A → List A → A
last_of other [] = other
last_of other (x ∷ xs) = last_of x xs

-- ---- the base block

-- the display product name (E-EDID Release A, 3.10.3.4), also where it is no text of that section: a tag FC after three zeros
abbrev pub is_named : List ℕ → Bool
is_named b = (slice_index b 0 == 0) && (slice_index b 1 == 0) && (slice_index b 2 == 0) && (slice_index b 3 == 0xfc)

-- the characters before the line feed
abbrev pub is_before_feed : ℕ → Bool
is_before_feed c = not (c == 0x0a)

abbrev pub before_feed : List ℕ → List ℕ
before_feed chars = take (prefix_len is_before_feed chars) chars

abbrev pub named_in : List ℕ → List (List ℕ)
named_in b = if is_named b then before_feed (drop 5 b) ∷ [] else []

abbrev pub names_in : Descriptor → List (List ℕ)
names_in d = named_in (descriptor_bytes d)

-- ---- extensions

-- the version of an extension of CTA-861, in three bits
abbrev pub version_in : Ext → List ℕ
version_in (Cta c) = 3 ∷ []
version_in (Bare b) = 3 ∷ []
version_in (Raw r) = if (slice_index r.bytes 0 == 2) && not (slice_index r.bytes 1 == 0) then (slice_index r.bytes 1 % 8) ∷ [] else []

-- ---- data blocks

-- short audio descriptors, of three bytes each (CTA-861, 7.5.2)
abbrev pub audio_in : DataBlock → List ℕ
audio_in b = if is_audio b then take (length b.payload.items / 3 * 3) b.payload.items else []

-- the first byte of a speaker allocation data block (CTA-861, 7.5.3)
abbrev pub is_speakers : BlockKind → Bool
is_speakers Speakers = true
is_speakers _ = false

abbrev pub speakers_in : DataBlock → List ℕ
speakers_in b = if is_speakers b.kind then take 1 b.payload.items else []

-- Supports_AI of an HDMI block (HDMI 1.4b, 8.3.2)
abbrev pub has_ai : List ℕ → Bool
has_ai payload = nat_le 6 (length payload) && nat_le 128 (slice_index payload 5)

abbrev pub takes_ai : DataBlock → Bool
takes_ai b = is_hdmi b && has_ai b.payload.items

-- a latency of an HDMI block in units of 2 ms: one less than the byte, at most 500 ms, and 0 where it is unknown
abbrev pub latency : ℕ → ℕ
latency code = min (code - 1) 250

-- by how much the video is later than the audio; 255 says that there is no video or no audio
abbrev pub delay_of : ℕ → ℕ → ℕ
delay_of video audio = if (video == 255) || (audio == 255) then 0 else latency video - latency audio

-- Latency_Fields_Present of an HDMI block, and the latencies of progressive video (HDMI 1.4b, 8.3.2)
abbrev pub has_latency : List ℕ → Bool
has_latency payload = nat_le 10 (length payload) && nat_le 128 (slice_index payload 7)

abbrev pub delays_in : DataBlock → List ℕ
delays_in b =
    if is_hdmi b && has_latency b.payload.items then delay_of (slice_index b.payload.items 8) (slice_index b.payload.items 9) ∷ [] else []

-- ---- all of it

-- fifteen descriptors at most, of all audio blocks
abbrev pub audio_of : List DataBlock → List ℕ
audio_of blocks = take 45 (flat_map audio_in blocks)

-- the parts of a display's ELD; where a block comes again the last one counts, and no HDCP is told
unfoldable pub display_parts : Base → List Ext → Connection → Parts
display_parts base extensions connection =
    record {
      version = Cta861D;
      cta_version = first_of 0 (flat_map version_in extensions);
      connection = connection;
      ai = list_any takes_ai (flat_map blocks_of extensions);
      hdcp = false;
      delay = last_of 0 (flat_map delays_in (flat_map blocks_of extensions));
      speakers = last_of 0 (flat_map speakers_in (flat_map blocks_of extensions));
      port = replicate 8 0;
      maker = maker_bytes base.maker;
      product = base.product;
      name = last_of [] (flat_map names_in base.descriptors);
      audio = audio_of (flat_map blocks_of extensions);
    }
