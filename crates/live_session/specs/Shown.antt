-- What a session that says objects makes of a device's state before it shows it (own).
use Rattle.std.specs.Prelude.{◌≡◌, ℕ, List, slice_get, Some}
use Rattle.device_core.specs.State.{State}
use Rattle.record_core.specs.declared.cell.Form.{Form}
use Rattle.record_core.specs.declared.cell.Form.TheVariants.{Text, Json}
use Rattle.room_trace.specs.Records.{state_text}
use Rattle.live_session.specs.declared.live.Step.{Step}
use Rattle.live_session.specs.declared.live.Step.TheVariants.{Refuse, Idle, Show, Go, Edge, Finish}
use Rattle.live_session.specs.Session.{Session}
use Rattle.live_session.specs.Turns.{form_of}

-- for an object that of the trace, for a line nothing
abbrev pub IsStateMade : Form → State → List ℕ → Type 0
IsStateMade Text device text = Unit {0}
IsStateMade Json device text = text ≡ state_text Json device

-- of the device that a step shows
abbrev pub IsMade : Session → Step → List ℕ → Type 0
IsMade s (Show device) text = (shown : State) → slice_get s.place.net.devices device ≡ Some shown → IsStateMade (form_of s.reporting) shown text
IsMade s (Refuse refusal) text = Unit {0}
IsMade s Idle text = Unit {0}
IsMade s Go text = Unit {0}
IsMade s Edge text = Unit {0}
IsMade s Finish text = Unit {0}

-- a step that shows a device
abbrev pub IsShow : Step → Type 0
IsShow (Show device) = Unit {0}
IsShow (Refuse refusal) = ⊥
IsShow Idle = ⊥
IsShow Go = ⊥
IsShow Edge = ⊥
IsShow Finish = ⊥
