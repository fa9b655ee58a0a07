-- The television's EDID, where the topology gives its bytes.
use Rattle.std.specs.Prelude.{◌≡◌, ℕ, List, Option, Some, None, IsSome}
use Rattle.edid_core.specs.Address.{edid_address}
use Rattle.edid_core.specs.Bytes.{edid_bytes, IsRefused}
use Rattle.edid_core.specs.declared.edid.Edid.{Edid as EdidValue}
use Rattle.edid_core.specs.declared.root.EdidCause.{EdidCause}
use Rattle.edid_core.specs.declared.root.EdidCause.TheVariants.{Edid, NoHdmiBlock}
use Rattle.edid_core.specs.declared.root.RootError.{RootError}
use Rattle.edid_core.specs.declared.root.RootError.TheVariants.{Cause, Memory}

-- an EDID that is given has an address: it has an HDMI block
abbrev pub HasAddress : Option EdidValue → Type 0
HasAddress None = Unit {0}
HasAddress (Some root) = IsSome (edid_address root)

-- these bytes, where they are given, spell this EDID, which has an address
abbrev pub IsRoot : Option (List ℕ) → Option EdidValue → Type 0
IsRoot None root = root ≡ None
IsRoot (Some bytes) None = ⊥
IsRoot (Some bytes) (Some root) = (edid_bytes root ≡ bytes) × IsSome (edid_address root)

-- why bytes are no television's EDID: they spell none, or one without an HDMI block
abbrev pub IsNoRoot : List ℕ → EdidCause → Type 0
IsNoRoot bytes (Edid error) = IsRefused bytes error
IsNoRoot bytes NoHdmiBlock = (root : EdidValue) × (edid_bytes root ≡ bytes) × (edid_address root ≡ None)

-- the same where memory may run out, of which nothing is said
abbrev pub IsNoRootOf : List ℕ → RootError → Type 0
IsNoRootOf bytes (Cause cause) = IsNoRoot bytes cause
IsNoRootOf bytes Memory = Unit {0}
