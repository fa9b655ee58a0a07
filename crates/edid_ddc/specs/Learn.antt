-- Physical address discovery: the physical address that a device learns over DDC (HDMI 1.4, section 8.7.2; how it reads is
-- own).
use Rattle.std.specs.Prelude.{◌≡◌, ℕ, ◌+◌, ◌*◌, ◌/◌, ◌<◌, ◌≤◌, ◌⊎◌, true, false, Some, None, Result, Ok, Err, List, ◌++◌, slice_index, take, replicate}
use Rattle.text_core.specs.declared.phys.Phys.{Phys}
use Rattle.edid_core.specs.Address.{edid_address}
use Rattle.edid_core.specs.Bytes.{edid_bytes, IsRefused}
use Rattle.edid_core.specs.declared.bytes.EdidError.TheVariants.{Length as EdidLength}
use Rattle.edid_core.specs.declared.edid.Edid.{Edid as EdidValue}
use Rattle.edid_ddc.specs.Bus.{has_segment}
use Rattle.edid_ddc.specs.declared.error.DdcError.{DdcError}
use Rattle.edid_ddc.specs.declared.error.DdcError.TheVariants.{NoAck, Edid, NoHdmiBlock, Length}

-- the bytes, and FF after them
abbrev pub bytes_with_padding : List ℕ → List ℕ
bytes_with_padding bytes = bytes ++ replicate 512 0xff

-- how many blocks byte 126 asks for, after the first
abbrev pub extension_count : List ℕ → ℕ
extension_count bytes = slice_index (bytes_with_padding bytes) 126

-- the first block and those that it asks for, FF where one is missing
abbrev pub blocks_read : List ℕ → List ℕ
blocks_read bytes = take (128 * (extension_count bytes + 1)) (bytes_with_padding bytes)

-- at most three blocks are asked for, and their segments are acknowledged
abbrev pub CanBeRead : List ℕ → Type 0
CanBeRead bytes = (extension_count bytes ≤ 3) × (has_segment bytes (extension_count bytes / 2) ≡ true)

-- a segment is not acknowledged; or else too many blocks are asked for
abbrev pub IsUnread : List ℕ → DdcError → Type 0
IsUnread bytes NoAck = (has_segment bytes 0 ≡ false) ⊎ ((extension_count bytes ≤ 3) × (has_segment bytes (extension_count bytes / 2) ≡ false))
IsUnread bytes (Edid cause) = (has_segment bytes 0 ≡ true) × (3 < extension_count bytes) × (cause ≡ EdidLength)
IsUnread bytes NoHdmiBlock = ⊥
IsUnread bytes Length = ⊥

-- blocks are no EDID, or one without an address
abbrev pub IsUnreported : List ℕ → DdcError → Type 0
IsUnreported blocks NoAck = ⊥
IsUnreported blocks (Edid cause) = IsRefused blocks cause
IsUnreported blocks NoHdmiBlock = (e : EdidValue) × (edid_bytes e ≡ blocks) × (edid_address e ≡ None)
IsUnreported blocks Length = ⊥

-- the address in the EDID that is read, or the first reason why there is none
abbrev pub IsLearnt : List ℕ → Result Phys DdcError → Type 0
IsLearnt bytes (Ok address) = CanBeRead bytes × ((e : EdidValue) × (edid_bytes e ≡ blocks_read bytes) × (edid_address e ≡ Some address))
IsLearnt bytes (Err error) = IsUnread bytes error ⊎ (CanBeRead bytes × IsUnreported (blocks_read bytes) error)
