-- No logical address is held twice (CEC 10.2), whatever is plugged, unplugged and sent, and whatever pulses come. That is said
-- of devices that are not from outside, whatever those from outside hold and send.
use Rattle.std.specs.Prelude.{◌≡◌, ℕ, ◌<◌, ◌≤◌, true, false, List, [], ◌∷◌, length, slice_get, Some}
use Rattle.line_wave.specs.declared.Stretch.{Stretch}
use Rattle.edid_tree.specs.Node.{Node}
use Rattle.line_rounds.specs.declared.Outcome.{Outcome}
use Rattle.device_features.specs.Kinds.{is_outside}
use Rattle.device_core.specs.State.{State, addresses_held}
use Rattle.device_core.specs.Place.{is_allocating, is_on_wire}
use Rattle.device_core.specs.Clean.{is_clean}
use Rattle.room_event.specs.declared.event.Event.{Event}
use Rattle.room_net.specs.Start.{contends}
use Rattle.room_net.specs.State.{NetState, first_net}
use Rattle.room_net.specs.Apply.{net_after}
use Rattle.room_net.specs.Step.{IsNextRound}

-- a device that is not from outside
abbrev pub IsInside : State → Type 0
IsInside d = is_outside d.kind ≡ false

-- No logical address below 15 is held twice, by two of these devices or by two units of one, where they are not from outside:
-- units that hold the same one are the same unit of the same device. Only a device on the wire holds one.
abbrev pub HeldOnce : List State → Type 0
HeldOnce devices = (i j unit other a : ℕ) (d e : State) → slice_get devices i ≡ Some d → slice_get devices j ≡ Some e
    → IsInside d → IsInside e → slice_get (addresses_held d.place) unit ≡ Some (Some a) → slice_get (addresses_held e.place) other ≡ Some (Some a) → a < 15 → (i ≡ j) × (unit ≡ other)

-- That, and what keeps it so:
pub record AreOrderly (devices : List State) : Type 0 where
  -- they are so few that they differ in their remainders by 16,
  pub few : length devices ≤ 15
  pub once : HeldOnce devices
  -- each that is not from outside holds addresses of its kind's lists, sends nothing to its own, and has queued nothing
  -- before it has settled,
  pub clean : (i : ℕ) (d : State) → slice_get devices i ≡ Some d → IsInside d → is_clean d ≡ true
  -- and each polls, on the wire, in the turn of its number.
  pub numbered : (i : ℕ) (d : State) → slice_get devices i ≡ Some d → is_on_wire d ≡ true → d.number ≡ i

-- ---- runs

-- a step of a run: an event that is applied, or a round
pub data Turn : Type 0 where
  Happens : (at : ℕ) → Event → Turn
  Rounds : (begin : ℕ) → Outcome → Turn

abbrev pub Takes : NetState → Turn → NetState → Type 0
Takes before (Happens at event) after = after ≡ net_after at event before
Takes before (Rounds begin o) after = IsNextRound before begin o after

-- these steps, one after another, lead from one state to another
abbrev pub Leads : NetState → List Turn → NetState → Type 0
Leads before [] after = after ≡ before
Leads before (turn ∷ turns) after = (next : NetState) × (Takes before turn next × Leads next turns after)

-- At no moment of a run is a logical address below 15 held twice, by two devices that are not from outside or by one: after any
-- events and rounds, at any times and in any order, with any pulses, and over any wire that gives each round's line.
abbrev pub NeverTwice : Type 0
NeverTwice = (tree : List Node) (pulses : List Stretch) (turns : List Turn) (s : NetState) → length tree ≤ 15
    → Leads (first_net tree pulses) turns s → HeldOnce s.devices

-- ---- why

-- Each step keeps it.
pub record KeepsOrder : Type 0 where
  pub starting : (tree : List Node) (pulses : List Stretch) → length tree ≤ 15 → AreOrderly (first_net tree pulses).devices
  pub happening : (at : ℕ) (event : Event) (s : NetState) → AreOrderly s.devices → AreOrderly (net_after at event s).devices
  pub going_round : (before : NetState) (begin : ℕ) (o : Outcome) (after : NetState) → AreOrderly before.devices → IsNextRound before begin o after → AreOrderly after.devices

-- In one round at most one device looks for an address: two never poll the same one at the same time.
abbrev pub PollsTakeTurns : Type 0
PollsTakeTurns = (devices : List State) (rest begin i j : ℕ) (d e : State) → AreOrderly devices → slice_get devices i ≡ Some d → slice_get devices j ≡ Some e
    → is_allocating d ≡ true → is_allocating e ≡ true → contends rest begin d ≡ true → contends rest begin e ≡ true → i ≡ j
