-- What of an EDID is passed on to the device in a port (HDMI 1.4, section 8.7.3): in the first extension that has an
-- HDMI block, the address there is the port's, and the audio is the amplifier's where one is on the way (own form).
use Rattle.std.specs.Prelude.{ℕ, if◌then◌else◌, List, [], ◌∷◌, ◌++◌, flat_map}
use Rattle.edid_base.specs.Base.{base_bytes}
use Rattle.edid_cta.specs.Audio.{heard_bytes, heard_place}
use Rattle.edid_cta.specs.Ext.{ext_bytes}
use Rattle.edid_cta.specs.Hdmi.{blocks_of, address_place, bytes_with_address}
use Rattle.edid_cta.specs.declared.raw.Ext.{Ext}
use Rattle.text_core.specs.declared.phys.Phys.{Phys}
use Rattle.edid_core.specs.Address.{has_address}
use Rattle.edid_core.specs.declared.edid.Edid.{Edid}
use Rattle.edid_core.specs.declared.passing.AudioFrom.{AudioFrom}
use Rattle.edid_core.specs.declared.passing.AudioFrom.TheVariants.{Television, Amplifier}

-- an extension with another address, and with the amplifier's audio
abbrev pub passed_bytes : AudioFrom → Phys → Ext → List ℕ
passed_bytes Television address x = bytes_with_address (ext_bytes x) (address_place (blocks_of x)) address
passed_bytes Amplifier address x = bytes_with_address (heard_bytes x) (heard_place x) address

-- the first extension that has an HDMI block is another, and no other one
abbrev pub passed_extensions : AudioFrom → Phys → List Ext → List ℕ
passed_extensions audio address [] = []
passed_extensions audio address (x ∷ xs) =
    if has_address x then passed_bytes audio address x ++ flat_map ext_bytes xs
    else ext_bytes x ++ passed_extensions audio address xs

abbrev pub passed_on_bytes : AudioFrom → Phys → Edid → List ℕ
passed_on_bytes audio address e = base_bytes e.base ++ passed_extensions audio address e.extensions.items
