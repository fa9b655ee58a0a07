-- The EDID that is passed on to a device at a place (HDMI 1.4, sections 8.7.2 and 8.7.3).
use Rattle.std.specs.Prelude.{◌≡◌, ℕ, ◌/◌, ◌%◌, ◌==◌, Bool, true, ◌&&◌, nat_lt, nat_le, if◌then◌else◌, IsTrue, List, Some, None}
use Rattle.text_core.specs.Phys.{nibbles}
use Rattle.text_core.specs.declared.phys.Phys.{Phys}
use Rattle.edid_core.specs.Address.{edid_address}
use Rattle.edid_core.specs.Bytes.{edid_bytes, IsRefused}
use Rattle.edid_core.specs.Passing.{passed_on_bytes}
use Rattle.edid_core.specs.declared.edid.Edid.{Edid as EdidValue}
use Rattle.edid_cta.specs.declared.raw.Ext.{Ext}
use Rattle.edid_base.specs.declared.base.Base.{Base}
use Rattle.conversion_calls.specs.declared.passing.Destination.{Destination}
use Rattle.conversion_calls.specs.declared.passing.Destination.TheVariants.{Address, Port}
use Rattle.conversion_calls.specs.declared.passing.Passing.{Passing}
use Rattle.conversion_calls.specs.declared.passing.PassOnError.{PassOnError}
use Rattle.conversion_calls.specs.declared.passing.PassOnError.TheVariants.{PortRange, Edid, NoHdmiBlock, Write}

-- the address in a port of the device with an address: the port in the first of the four places that is 0, and F.F.F.F
-- where none is
abbrev pub address_in : Phys → ℕ → Phys
address_in own port =
    if own.high / 16 == 0 then nibbles port 0 0 0
    else if own.high % 16 == 0 then nibbles (own.high / 16) port 0 0
    else if own.low / 16 == 0 then nibbles (own.high / 16) (own.high % 16) port 0
    else if own.low % 16 == 0 then nibbles (own.high / 16) (own.high % 16) (own.low / 16) port
    else nibbles 15 15 15 15

-- ports are numbered from 1 to 15
abbrev pub is_port : ℕ → Bool
is_port port = nat_lt 0 port && nat_le port 15

abbrev pub is_place : Destination → Bool
is_place (Address address) = true
is_place (Port port) = is_port port

abbrev pub place_address : Destination → Phys → Phys
place_address (Address address) own = address
place_address (Port port) own = address_in own port

-- an EDID with these bytes and an address is passed on as this one
pub record IsPassedOnAs (passing : Passing) (e passed : EdidValue) (own : Phys) : Type 0 where
  pub reported : edid_address e ≡ Some own
  pub bytes : edid_bytes passed ≡ passed_on_bytes passing.audio (place_address passing.place own) e
  pub address : edid_address passed ≡ Some (place_address passing.place own)

abbrev pub IsPassedOn : List ℕ → Passing → EdidValue → Type 0
IsPassedOn bytes passing passed = (e : EdidValue) × (edid_bytes e ≡ bytes) × (own : Phys) × IsPassedOnAs passing e passed own

-- of its parts
abbrev pub IsPassedOnIn : List ℕ → Passing → Base → List Ext → Type 0
IsPassedOnIn bytes passing base extensions = (p : EdidValue) × (p.base ≡ base) × (p.extensions.items ≡ extensions) × IsPassedOn bytes passing p

-- why none is: there is no such port, else the bytes spell none, else it has no HDMI block
abbrev pub IsNotPassedOn : List ℕ → Passing → PassOnError → Type 0
IsNotPassedOn bytes passing PortRange = ¬ IsTrue (is_place passing.place)
IsNotPassedOn bytes passing (Edid cause) = IsTrue (is_place passing.place) × IsRefused bytes cause
IsNotPassedOn bytes passing NoHdmiBlock = IsTrue (is_place passing.place) × (e : EdidValue) × (edid_bytes e ≡ bytes) × (edid_address e ≡ None)
IsNotPassedOn bytes passing (Write count) = ⊥
