-- A key of a device, pressed or released: what the key table makes of it, in the record and in the queue.
use Rattle.std.specs.Prelude.{ℕ, Bool, if◌then◌else◌, Option, Some, None}
use Rattle.device_features.specs.declared.record.Heard.{Heard}
use Rattle.device_features.specs.declared.keys.Key.{Key}
use Rattle.device_features.specs.Keys.{has_key, pressing, releasing}
use Rattle.device_core.specs.declared.keys.KeyError.{KeyError}
use Rattle.device_core.specs.declared.keys.KeyError.TheVariants.{NotForKind, OffWire}
use Rattle.device_core.specs.State.{State}
use Rattle.device_core.specs.Place.{is_off}
use Rattle.device_core.specs.Say.{after_effect}

-- a device's own doing, in answer to no frame
abbrev pub own_doing : ℕ → Heard
own_doing at = record { from = 15; to = 15; opcode = 0; first = 0; at = at }

-- why a key is refused, the first reason
abbrev pub key_fault : State → Key → Option KeyError
key_fault d key = if is_off d.place then Some OffWire else (if has_key d.kind d.ports key then None else Some NotForKind)

abbrev pub keyed_by : ℕ → State → Key → Bool → ℕ → Option KeyError → State
keyed_by limit d key press at None =
    after_effect limit (own_doing at) (if press then pressing d.kind d.phys d.record_of key else releasing d.kind d.record_of key) d
keyed_by limit d key press at (Some fault) = d

-- A key is pressed or released. Where it is refused nothing changes.
abbrev pub after_key : ℕ → State → Key → Bool → ℕ → State
after_key limit d key press at = keyed_by limit d key press at (key_fault d key)
