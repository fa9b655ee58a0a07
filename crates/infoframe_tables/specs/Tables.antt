-- The tables, as they stand in the code.
use Rattle.std.specs.Prelude.{List}
use Rattle.edid_fields.specs.Forms.{Part, table_in_constant}
use Rattle.infoframe_tables.specs.declared.avi.TheConstants.{AVI}
use Rattle.infoframe_tables.specs.declared.hdr.TheConstants.{HDR}
use Rattle.infoframe_tables.specs.declared.sound.TheConstants.{AUDIO}
use Rattle.infoframe_tables.specs.declared.vendors.TheConstants.{HDMI, FORUM, VENDOR, OTHER}
use Rattle.infoframe_tables.specs.declared.kinds.FrameKind.{FrameKind}
use Rattle.infoframe_tables.specs.declared.kinds.FrameKind.TheVariants as kinds

unfoldable pub avi_parts : List Part
avi_parts = table_in_constant AVI

unfoldable pub audio_parts : List Part
audio_parts = table_in_constant AUDIO

unfoldable pub hdr_parts : List Part
hdr_parts = table_in_constant HDR

unfoldable pub hdmi_parts : List Part
hdmi_parts = table_in_constant HDMI

unfoldable pub forum_parts : List Part
forum_parts = table_in_constant FORUM

unfoldable pub vendor_parts : List Part
vendor_parts = table_in_constant VENDOR

unfoldable pub other_parts : List Part
other_parts = table_in_constant OTHER

abbrev pub frame_parts : FrameKind → List Part
frame_parts kinds.Avi = avi_parts
frame_parts kinds.Audio = audio_parts
frame_parts kinds.Hdr = hdr_parts
frame_parts kinds.Hdmi = hdmi_parts
frame_parts kinds.Forum = forum_parts
frame_parts kinds.Vendor = vendor_parts
frame_parts kinds.Other = other_parts
