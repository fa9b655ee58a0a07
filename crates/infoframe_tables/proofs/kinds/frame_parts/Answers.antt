use Rattle.edid_fields.specs.Forms.{table_in_code}
use Rattle.infoframe_tables.proofs.AreFrames.{is_one}
use Rattle.infoframe_tables.specs.declared.kinds.FrameKind.TheVariants.{Avi, Audio, Hdr, Hdmi, Forum, Vendor, Other}
use Rattle.infoframe_tables.proofs.kinds.frame_parts.Goals as goal

pub returns-in-Avi-clause-table : goal.returns-in-Avi-clause-table
returns-in-Avi-clause-table c = is_one Avi (table_in_code c.avi_parts.result.now) c.avi_parts.ensures

pub returns-in-Audio-clause-table : goal.returns-in-Audio-clause-table
returns-in-Audio-clause-table c = is_one Audio (table_in_code c.audio_parts.result.now) c.audio_parts.ensures

pub returns-in-Hdr-clause-table : goal.returns-in-Hdr-clause-table
returns-in-Hdr-clause-table c = is_one Hdr (table_in_code c.hdr_parts.result.now) c.hdr_parts.ensures

pub returns-in-Hdmi-clause-table : goal.returns-in-Hdmi-clause-table
returns-in-Hdmi-clause-table c = is_one Hdmi (table_in_code c.hdmi_parts.result.now) c.hdmi_parts.ensures

pub returns-in-Forum-clause-table : goal.returns-in-Forum-clause-table
returns-in-Forum-clause-table c = is_one Forum (table_in_code c.forum_parts.result.now) c.forum_parts.ensures

pub returns-in-Vendor-clause-table : goal.returns-in-Vendor-clause-table
returns-in-Vendor-clause-table c = is_one Vendor (table_in_code c.vendor_parts.result.now) c.vendor_parts.ensures

pub returns-in-Other-clause-table : goal.returns-in-Other-clause-table
returns-in-Other-clause-table c = is_one Other (table_in_code c.other_parts.result.now) c.other_parts.ensures
