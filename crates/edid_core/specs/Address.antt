-- The physical address that an EDID reports: that of its first HDMI block, the HDMI VSDB (HDMI 1.4, sections 8.3.2 and
-- 8.7.2).
use Rattle.std.specs.Prelude.{Bool, if◌then◌else◌, List, [], ◌∷◌, Option, None, is_some}
use Rattle.edid_cta.specs.Hdmi.{address_of}
use Rattle.edid_cta.specs.declared.raw.Ext.{Ext}
use Rattle.text_core.specs.declared.phys.Phys.{Phys}
use Rattle.edid_core.specs.declared.edid.Edid.{Edid}

-- an extension has an HDMI block
abbrev pub has_address : Ext → Bool
has_address x = is_some (address_of x)

-- the address in the first extension that has one
abbrev pub first_address : List Ext → Option Phys
first_address [] = None
first_address (x ∷ xs) = if has_address x then address_of x else first_address xs

abbrev pub edid_address : Edid → Option Phys
edid_address e = first_address e.extensions.items
