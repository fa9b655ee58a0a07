-- The bytes of an InfoFrame: the header of three, the checksum, and the data bytes (HDMI 1.4b, section 5.3.5).
use Rattle.std.specs.Prelude.{ℕ, List, take}
use Rattle.infoframe_tables.specs.declared.frame.InfoFrame.{InfoFrame}

abbrev pub frame_bytes : InfoFrame → List ℕ
frame_bytes f = take f.count f.bytes
