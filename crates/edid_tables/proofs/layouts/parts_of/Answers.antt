use Rattle.edid_fields.specs.Forms.{table_in_code}
use Rattle.edid_tables.proofs.AreBlocks.{is_one}
use Rattle.edid_tables.specs.declared.layouts.Table.TheVariants.{Audio, Video, Hdmi, Forum, Speakers, Capability, Dolby, Colorimetry, Hdr, Preferences, Video420, Map420, Count, SinkCapabilities}
use Rattle.edid_tables.proofs.layouts.parts_of.Goals as goal

pub returns-in-Audio-clause-table : goal.returns-in-Audio-clause-table
returns-in-Audio-clause-table c = is_one Audio (table_in_code c.audio_parts.result.now) c.audio_parts.ensures

pub returns-in-Video-clause-table : goal.returns-in-Video-clause-table
returns-in-Video-clause-table c = is_one Video (table_in_code c.video_parts.result.now) c.video_parts.ensures

pub returns-in-Hdmi-clause-table : goal.returns-in-Hdmi-clause-table
returns-in-Hdmi-clause-table c = is_one Hdmi (table_in_code c.hdmi_parts.result.now) c.hdmi_parts.ensures

pub returns-in-Forum-clause-table : goal.returns-in-Forum-clause-table
returns-in-Forum-clause-table c = is_one Forum (table_in_code c.forum_parts.result.now) c.forum_parts.ensures

pub returns-in-Speakers-clause-table : goal.returns-in-Speakers-clause-table
returns-in-Speakers-clause-table c = is_one Speakers (table_in_code c.speakers_parts.result.now) c.speakers_parts.ensures

pub returns-in-Capability-clause-table : goal.returns-in-Capability-clause-table
returns-in-Capability-clause-table c = is_one Capability (table_in_code c.capability_parts.result.now) c.capability_parts.ensures

pub returns-in-Dolby-clause-table : goal.returns-in-Dolby-clause-table
returns-in-Dolby-clause-table c = is_one Dolby (table_in_code c.dolby_parts.result.now) c.dolby_parts.ensures

pub returns-in-Colorimetry-clause-table : goal.returns-in-Colorimetry-clause-table
returns-in-Colorimetry-clause-table c = is_one Colorimetry (table_in_code c.colorimetry_parts.result.now) c.colorimetry_parts.ensures

pub returns-in-Hdr-clause-table : goal.returns-in-Hdr-clause-table
returns-in-Hdr-clause-table c = is_one Hdr (table_in_code c.hdr_parts.result.now) c.hdr_parts.ensures

pub returns-in-Preferences-clause-table : goal.returns-in-Preferences-clause-table
returns-in-Preferences-clause-table c = is_one Preferences (table_in_code c.preferences_parts.result.now) c.preferences_parts.ensures

pub returns-in-Video420-clause-table : goal.returns-in-Video420-clause-table
returns-in-Video420-clause-table c = is_one Video420 (table_in_code c.video_420_parts.result.now) c.video_420_parts.ensures

pub returns-in-Map420-clause-table : goal.returns-in-Map420-clause-table
returns-in-Map420-clause-table c = is_one Map420 (table_in_code c.map_420_parts.result.now) c.map_420_parts.ensures

pub returns-in-Count-clause-table : goal.returns-in-Count-clause-table
returns-in-Count-clause-table c = is_one Count (table_in_code c.count_parts.result.now) c.count_parts.ensures

pub returns-in-SinkCapabilities-clause-table : goal.returns-in-SinkCapabilities-clause-table
returns-in-SinkCapabilities-clause-table c = is_one SinkCapabilities (table_in_code c.sink_capabilities_parts.result.now) c.sink_capabilities_parts.ensures
