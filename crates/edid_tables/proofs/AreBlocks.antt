-- Each table passes the check of tables.
use Rattle.std.proofs.Common.{◌≡◌, List, true, refl, subst, sym}
use Rattle.edid_fields.specs.Fields.{is_table, is_tiled}
use Rattle.edid_fields.specs.Forms.{Part}
use Rattle.edid_tables.specs.Tables.{parts_of, audio_parts, video_parts, hdmi_parts, forum_parts, speakers_parts, capability_parts, dolby_parts, colorimetry_parts, hdr_parts, preferences_parts, video_420_parts, map_420_parts, count_parts, sink_capabilities_parts}
use Rattle.edid_tables.specs.declared.layouts.Table.{Table}
use Rattle.edid_tables.specs.declared.layouts.Table.TheVariants.{Audio, Video, Hdmi, Forum, Speakers, Capability, Dolby, Colorimetry, Hdr, Preferences, Video420, Map420, Count, SinkCapabilities}

pub are_tables : (t : Table) → is_table (parts_of t) ≡ true
unfolding is_tiled audio_parts video_parts hdmi_parts forum_parts speakers_parts capability_parts dolby_parts colorimetry_parts hdr_parts preferences_parts video_420_parts map_420_parts count_parts sink_capabilities_parts
are_tables Audio = refl
are_tables Video = refl
are_tables Hdmi = refl
are_tables Forum = refl
are_tables Speakers = refl
are_tables Capability = refl
are_tables Dolby = refl
are_tables Colorimetry = refl
are_tables Hdr = refl
are_tables Preferences = refl
are_tables Video420 = refl
are_tables Map420 = refl
are_tables Count = refl
are_tables SinkCapabilities = refl

-- what the code has is one too
pub is_one : (t : Table) (parts : List Part) → parts ≡ parts_of t → is_table parts ≡ true
is_one t parts same = subst (λ x. is_table x ≡ true) (sym same) (are_tables t)
