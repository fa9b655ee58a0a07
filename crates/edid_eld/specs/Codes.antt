-- Codes of an ELD (High Definition Audio 1.0a, 7.3.3.34.1).
use Rattle.std.specs.Prelude.{ℕ, Bool, true, false}
use Rattle.edid_eld.specs.declared.codes.Connection.{Connection}
use Rattle.edid_eld.specs.declared.codes.Connection.TheVariants.{Hdmi, DisplayPort, Reserved2, Reserved3}
use Rattle.edid_eld.specs.declared.codes.EldVersion.{EldVersion}
use Rattle.edid_eld.specs.declared.codes.EldVersion.TheVariants.{Cta861D, Partial}

-- ELD_Ver: CEA-861-D and below, and an ELD that is filled in part
abbrev pub version_number : EldVersion → ℕ
version_number Cta861D = 2
version_number Partial = 31

-- Conn_Type
abbrev pub connection_number : Connection → ℕ
connection_number Hdmi = 0
connection_number DisplayPort = 1
connection_number Reserved2 = 2
connection_number Reserved3 = 3

abbrev pub bit : Bool → ℕ
bit true = 1
bit false = 0
