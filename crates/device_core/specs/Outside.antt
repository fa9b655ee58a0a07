-- A device from outside (own): its driver says which addresses it holds, what it sends, and when it drops what it has to send.
use Rattle.std.specs.Prelude.{◌≡◌, ℕ, Bool, true, false, List, [], if◌then◌else◌, Option, Some, None}
use Rattle.text_core.specs.declared.phys.Phys.{Phys}
use Rattle.line_frames.specs.declared.free_time.FreeTime.{FreeTime}
use Rattle.line_frames.specs.declared.free_time.FreeTime.TheVariants.{Retry, PresentInitiator}
use Rattle.device_core.specs.declared.place.Place.TheVariants.{Settled}
use Rattle.device_core.specs.declared.keys.KeyError.{KeyError}
use Rattle.device_core.specs.declared.keys.KeyError.TheVariants.{NotForKind, OffWire}
use Rattle.device_core.specs.declared.outside.Act.{Act}
use Rattle.device_core.specs.declared.outside.Act.TheVariants.{Hold, Empty}
use Rattle.device_features.specs.declared.keys.Key.{Key}
use Rattle.device_features.specs.Kinds.{is_outside}
use Rattle.device_core.specs.State.{State}
use Rattle.device_core.specs.Place.{is_off, is_on_wire, after_joining}
use Rattle.device_core.specs.Effects.{after_frame}
use Rattle.device_core.specs.Keys.{after_key}

-- why an act is refused, the first reason
abbrev pub act_fault : State → Option KeyError
act_fault d = if is_off d.place then Some OffWire else (if is_outside d.kind then None else Some NotForKind)

-- An attempt that is dropped is not made again, so what is sent next waits as after a frame of its own.
abbrev pub class_after_drop : FreeTime → FreeTime
class_after_drop Retry = PresentInitiator
class_after_drop class = class

abbrev pub acted_by : State → Option KeyError → Act → State
acted_by d None (Hold first second more) = record d { place = Settled first second; more = more }
acted_by d None Empty = record d { queue = []; attempts = 0; class = class_after_drop d.class }
acted_by d (Some fault) act = d

-- It holds other addresses, or drops what it has queued. Where that is refused nothing changes.
abbrev pub after_act : State → Act → State
after_act d act = acted_by d (act_fault d) act

-- Only a device from outside does what it is told so; it follows nothing, has no keys, and says nothing by itself.
pub record OnlyOutside : Type 0 where
  pub acting : (d : State) (act : Act) → is_outside d.kind ≡ false → after_act d act ≡ d
  pub following : (limit at : ℕ) (frame : List ℕ) (d : State) → is_outside d.kind ≡ true → after_frame limit d frame at ≡ d
  pub keying : (limit at : ℕ) (key : Key) (press : Bool) (d : State) → is_outside d.kind ≡ true → after_key limit d key press at ≡ d
  pub joining : (limit number at : ℕ) (phys : Phys) (d : State) → is_outside d.kind ≡ true
      → ((after_joining limit d number phys at).place ≡ Settled 15 None) × ((after_joining limit d number phys at).queue ≡ [])
  -- what it is told changes neither its number, nor whether it is on the wire
  pub number : (d : State) (act : Act) → (after_act d act).number ≡ d.number
  pub wire : (d : State) (act : Act) → is_on_wire (after_act d act) ≡ is_on_wire d
