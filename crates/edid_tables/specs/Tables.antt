-- The tables, as they stand in the code.
use Rattle.std.specs.Prelude.{List}
use Rattle.edid_fields.specs.Forms.{Part, table_in_constant}
use Rattle.edid_tables.specs.declared.audio.TheConstants.{AUDIO}
use Rattle.edid_tables.specs.declared.cta.TheConstants.{VIDEO, SPEAKERS, CAPABILITY, COLORIMETRY, HDR, PREFERENCES, VIDEO_420, MAP_420}
use Rattle.edid_tables.specs.declared.hdmi.TheConstants.{HDMI}
use Rattle.edid_tables.specs.declared.forum.TheConstants.{FORUM, COUNT, SINK_CAPABILITIES}
use Rattle.edid_tables.specs.declared.dolby.TheConstants.{DOLBY}
use Rattle.edid_tables.specs.declared.layouts.Table.{Table}
use Rattle.edid_tables.specs.declared.layouts.Table.TheVariants.{Audio, Video, Hdmi, Forum, Speakers, Capability, Dolby, Colorimetry, Hdr, Preferences, Video420, Map420, Count, SinkCapabilities}

unfoldable pub audio_parts : List Part
audio_parts = table_in_constant AUDIO

unfoldable pub video_parts : List Part
video_parts = table_in_constant VIDEO

unfoldable pub hdmi_parts : List Part
hdmi_parts = table_in_constant HDMI

unfoldable pub forum_parts : List Part
forum_parts = table_in_constant FORUM

unfoldable pub speakers_parts : List Part
speakers_parts = table_in_constant SPEAKERS

unfoldable pub capability_parts : List Part
capability_parts = table_in_constant CAPABILITY

unfoldable pub dolby_parts : List Part
dolby_parts = table_in_constant DOLBY

unfoldable pub colorimetry_parts : List Part
colorimetry_parts = table_in_constant COLORIMETRY

unfoldable pub hdr_parts : List Part
hdr_parts = table_in_constant HDR

unfoldable pub preferences_parts : List Part
preferences_parts = table_in_constant PREFERENCES

unfoldable pub video_420_parts : List Part
video_420_parts = table_in_constant VIDEO_420

unfoldable pub map_420_parts : List Part
map_420_parts = table_in_constant MAP_420

unfoldable pub count_parts : List Part
count_parts = table_in_constant COUNT

unfoldable pub sink_capabilities_parts : List Part
sink_capabilities_parts = table_in_constant SINK_CAPABILITIES

abbrev pub parts_of : Table → List Part
parts_of Audio = audio_parts
parts_of Video = video_parts
parts_of Hdmi = hdmi_parts
parts_of Forum = forum_parts
parts_of Speakers = speakers_parts
parts_of Capability = capability_parts
parts_of Dolby = dolby_parts
parts_of Colorimetry = colorimetry_parts
parts_of Hdr = hdr_parts
parts_of Preferences = preferences_parts
parts_of Video420 = video_420_parts
parts_of Map420 = map_420_parts
parts_of Count = count_parts
parts_of SinkCapabilities = sink_capabilities_parts
