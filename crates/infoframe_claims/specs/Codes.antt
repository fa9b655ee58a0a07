-- Which formats a display takes by their video codes.
use Rattle.std.specs.Prelude.{ℕ, ◌+◌, ◌*◌, ◌/◌, ◌%◌, ◌==◌, ◌&&◌, ◌||◌, nat_le, Bool, false, Option, Some, None, List, [], ◌∷◌, length, drop, slice_index}
use Rattle.std.specs.List.{list_any}
use Rattle.edid_base.specs.declared.base.Base.{Base}
use Rattle.edid_base.specs.declared.timing.Timing.{Timing}
use Rattle.edid_cta.specs.Hdmi.{blocks_of, is_hdmi}
use Rattle.edid_cta.specs.declared.block.DataBlock.{DataBlock}
use Rattle.edid_cta.specs.declared.raw.Ext.{Ext}
use Rattle.edid_modes.specs.Tables.{code_timing}
use Rattle.edid_modes.specs.declared.timing.ModeTiming.{ModeTiming}
use Rattle.rules_values.specs.BlockParts.{hdmi_codes, is_video_kind}
use Rattle.rules_values.specs.ExtParts.{timings_of}
use Rattle.rules_values.specs.VideoCodes.{code_of, video_codes}
use Rattle.infoframe_claims.specs.Bits.{has_bit}
use Rattle.infoframe_claims.specs.Features.{has_tag}

abbrev pub is_among : ℕ → List ℕ → Bool
is_among code codes = list_any (λ c. c == code) codes

-- of short video descriptors, native or not
abbrev pub descriptors_have : ℕ → List ℕ → Bool
descriptors_have code svds = list_any (λ svd. code_of svd == code) svds

-- a video data block (CTA-861-H, section 7.5.1)
abbrev pub lists_code : ℕ → DataBlock → Bool
lists_code code b = is_video_kind b.kind && descriptors_have code b.payload.items

-- a YCbCr 4:2:0 video data block: extended tag 14 (section 7.5.10)
abbrev pub lists_420 : ℕ → DataBlock → Bool
lists_420 code b = has_tag 14 b && descriptors_have code (drop 1 b.payload.items)

-- HDMI's own codes, in its vendor specific data block (HDMI 1.4b, section 8.3.2)
abbrev pub lists_hdmi : ℕ → DataBlock → Bool
lists_hdmi code b = is_hdmi b && is_among code (hdmi_codes b.payload.items)

-- ---- the YCbCr 4:2:0 capability map: extended tag 15 (CTA-861-H, section 7.5.11)

-- bit k, the lowest of the first byte first, is for the code at place k of the video data blocks
abbrev pub marks : List ℕ → ℕ → List ℕ → ℕ → Bool
marks bytes place [] code = false
marks bytes place (c ∷ codes) code =
    ((c == code) && has_bit (slice_index bytes (place / 8)) (place % 8)) || marks bytes (place + 1) codes code

-- a map without a bit is for all of them
abbrev pub maps : List ℕ → ℕ → DataBlock → Bool
maps codes code b =
    has_tag 15 b && (((length b.payload.items == 1) && is_among code codes) || marks (drop 1 b.payload.items) 0 codes code)

abbrev pub some_map : List Ext → ℕ → Bool
some_map xs code = list_any (λ x. list_any (maps (video_codes xs) code) (blocks_of x)) xs

-- ---- detailed timings

-- The numbers are those of the format (CTA-861-H, section 4), and the clock is within half a per cent: 59.94 Hz stands for 60 Hz too.
abbrev pub is_near : ℕ → ℕ → Bool
is_near a b = nat_le (a * 200) (b * 201) && nat_le (b * 200) (a * 201)

abbrev pub is_of_mode : ModeTiming → Timing → Bool
is_of_mode m t =
    is_near m.clock t.clock && (m.width == t.horizontal_active) && (m.horizontal_blanking == t.horizontal_blanking)
    && (m.height == t.vertical_active) && (m.vertical_blanking == t.vertical_blanking) && (m.flags / 128 == t.flags / 128)

abbrev pub some_of_mode : Option ModeTiming → List Timing → Bool
some_of_mode None timings = false
some_of_mode (Some m) timings = list_any (is_of_mode m) timings

-- 640x480 at 60 Hz is a format of each display (section 4); another one is there by a detailed timing too
abbrev pub has_timing : ℕ → Base → List Ext → Bool
has_timing code b xs = (code == 1) || some_of_mode (code_timing code) (timings_of b xs)
