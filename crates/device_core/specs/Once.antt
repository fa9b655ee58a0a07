-- No logical address below 15 is held twice (CEC 10.2): what the rule of starts, the queues and the rounds do for it.
use Rattle.std.specs.Prelude.{◌≡◌, ℕ, ◌%◌, Bool, true, not, is_some, ◌⊎◌, List, slice_index, Option, Some, None}
use Rattle.device_core.specs.declared.place.Place.{Place}
use Rattle.line_frames.specs.declared.Fate.{Fate}
use Rattle.line_frames.specs.declared.Fate.TheVariants.{Unacked}
use Rattle.device_core.specs.State.{State, holds}
use Rattle.device_core.specs.Place.{polled_at, after_sending, after_waiting}

abbrev pub Devices : Type 0
Devices = ℕ → State

-- each address below 15 has one holder at most
abbrev pub IsOnce : Devices → Type 0
IsOnce d = (i j a : ℕ) → holds (d i).place a ≡ true → holds (d j).place a ≡ true → i ≡ j

-- a frame goes to another address than those of the device
abbrev pub goes_elsewhere : Place → List ℕ → Bool
goes_elsewhere place frame = not (holds place (slice_index frame 0 % 16))

-- What the law needs to know of a round that begins at `begin`, in which each device sends a frame or none.
pub record IsFair (begin : ℕ) (sends : ℕ → Option (List ℕ)) (fate : ℕ → Fate) (d : Devices) : Type 0 where
  -- an allocation poll starts where the remainder by 16 is the device's number
  pub aligned : (i a : ℕ) → is_some (sends i) ≡ true → polled_at (d i).place ≡ Some a → begin % 16 ≡ i
  -- what a device sends goes elsewhere
  pub elsewhere : (j : ℕ) (frame : List ℕ) → sends j ≡ Some frame → goes_elsewhere (d j).place frame ≡ true
  -- where a poll was unacknowledged, who holds its address was itself still sending a frame to it
  pub unheard : (i j a : ℕ) → is_some (sends i) ≡ true → polled_at (d i).place ≡ Some a → fate i ≡ Unacked → holds (d j).place a ≡ true
      → (frame : List ℕ) × ((sends j ≡ Some frame) × (slice_index frame 0 % 16 ≡ a))

abbrev pub after_fate : ℕ → ℕ → State → Fate → Option (List ℕ) → State
after_fate limit at d fate None = after_waiting d
after_fate limit at d fate (Some frame) = after_sending limit d fate at

-- the fates of a round keep each address with one holder
abbrev pub FatesKeepOnce : Type 0
FatesKeepOnce = (limit begin at : ℕ) (sends : ℕ → Option (List ℕ)) (fate : ℕ → Fate) (d : Devices)
    → IsFair begin sends fate d → IsOnce d → IsOnce (λ i. after_fate limit at (d i) (fate i) (sends i))

-- Who holds an address after a fate held it before, or polled it and nobody acknowledged that poll. So a poll that was
-- acknowledged, were it by a pulse alone, only makes the device go on.
abbrev pub AddressesAreFound : Type 0
AddressesAreFound = (limit at a : ℕ) (fate : Fate) (d : State) → holds (after_sending limit d fate at).place a ≡ true
    → (holds d.place a ≡ true) ⊎ ((polled_at d.place ≡ Some a) × (fate ≡ Unacked))
