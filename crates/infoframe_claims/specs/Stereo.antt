-- Which structures of 3D a display takes: HDMI's vendor specific data block (HDMI 1.4b, section 8.3.2).
use Rattle.std.specs.Prelude.{ℕ, ◌-◌, ◌%◌, ◌==◌, ◌&&◌, ◌||◌, nat_le, nat_lt, Bool, true, false, if◌then◌else◌, Option, Some, None, List, [], ◌∷◌, drop, slice_index}
use Rattle.edid_cta.specs.Hdmi.{is_hdmi}
use Rattle.edid_cta.specs.declared.block.DataBlock.{DataBlock}
use Rattle.edid_layout.specs.HdmiBlock.{stereo_bytes, video_bytes}
use Rattle.edid_layout.specs.declared.hdmi_block.HdmiVideo.{HdmiVideo}
use Rattle.rules_values.specs.BlockParts.{hdmi_of}
use Rattle.infoframe_claims.specs.Bits.{has_bit}

-- frame packing, top and bottom, and side by side (half): a display with 3D takes them in some formats (section 8.3.2)
abbrev pub is_mandatory : ℕ → Bool
is_mandatory s = (s == 0) || (s == 6) || (s == 8)

-- a bit each for the structures 15 to 8, and 7 to 0, where 3D_Multi_present is 1 or 2
abbrev pub all_take : ℕ → ℕ → List ℕ → Bool
all_take s multi p = ((multi == 1) || (multi == 2)) && (if nat_lt s 8 then has_bit (slice_index p 1) s else has_bit (slice_index p 0) (s - 8))

-- these two bytes, and the two of a mask
abbrev pub front_of : ℕ → ℕ
front_of multi = if multi == 1 then 2 else if multi == 2 then 4 else 0

-- Entries: a structure in the low four bits of a byte; one of 8 and more has a second byte, which is passed over.
abbrev pub entries_take : ℕ → Bool → List ℕ → Bool
entries_take s passes [] = false
entries_take s true (entry ∷ entries) = entries_take s false entries
entries_take s false (entry ∷ entries) = (entry % 16 == s) || entries_take s (nat_le 8 (entry % 16)) entries

abbrev pub lists_structure : ℕ → ℕ → List ℕ → Bool
lists_structure s multi p = is_mandatory s || (all_take s multi p || entries_take s false (drop (front_of multi) p))

abbrev pub video_takes : ℕ → Option HdmiVideo → List ℕ → Bool
video_takes s None p = false
video_takes s (Some v) p = v.has_stereo && lists_structure s v.multi (stereo_bytes v p)

abbrev pub takes_structure : ℕ → DataBlock → Bool
takes_structure s b = is_hdmi b && video_takes s (hdmi_of b).video (video_bytes (drop 5 b.payload.items))
