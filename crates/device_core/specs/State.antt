-- What a device is to its callers, and who it is on the wire. That a device with no address speaks only where it is
-- a switch, which address a box speaks from, and how many frames wait, are this profile's own.
use Rattle.std.specs.Prelude.{ℕ, ◌==◌, ◌*◌, ◌+◌, Bool, true, false, ◌&&◌, ◌||◌, not, nat_lt, List, [], ◌∷◌, ◌++◌, length, if◌then◌else◌, min, Option, Some, None}
use Rattle.std.specs.List.{list_any}
use Rattle.text_core.specs.declared.kind.Kind.{Kind}
use Rattle.text_core.specs.declared.phys.Phys.{Phys}
use Rattle.line_frames.specs.declared.free_time.FreeTime.{FreeTime}
use Rattle.device_core.specs.declared.outside.MoreHeld.{MoreHeld}
use Rattle.device_core.specs.declared.place.Place.{Place}
use Rattle.device_core.specs.declared.place.Place.TheVariants.{Off, Polls, Settled}
use Rattle.device_features.specs.declared.record.Record.{Record}
use Rattle.device_features.specs.Kinds.{is_outside, is_switch, is_nowhere}
use Rattle.device_core.specs.declared.device.Queued.{Queued}

pub record State : Type 0 where
  pub kind : Kind
  pub name : List ℕ
  pub ports : ℕ
  pub number : ℕ
  pub phys : Phys
  pub place : Place
  pub more : MoreHeld
  pub record_of : Record
  pub queue : List Queued
  pub attempts : ℕ
  pub class : FreeTime
  pub poll_ready : ℕ
  pub dropped : ℕ

-- ---- who it is on the wire

-- Where each of its units has settled, at 15 where it found no address. A device of one unit has no second one.
abbrev pub addresses_held : Place → List (Option ℕ)
addresses_held Off = None ∷ None ∷ []
addresses_held (Polls found a) = found ∷ None ∷ []
addresses_held (Settled first second) = Some first ∷ second ∷ []

-- a unit holds this address, which is below 15
abbrev pub is_held : Option ℕ → ℕ → Bool
is_held None to = false
is_held (Some a) to = (a == to) && nat_lt to 15

-- one of its units holds this address
abbrev pub holds : Place → ℕ → Bool
holds place to = list_any (λ unit. is_held unit to) (addresses_held place)

-- Beside the addresses of its units a device from outside holds up to two more, while it is on the wire (own: adapters have up to four).
abbrev pub more_of : Bool → Place → MoreHeld → List (Option ℕ)
more_of false place more = None ∷ None ∷ []
more_of true Off more = None ∷ None ∷ []
more_of true (Polls found a) more = None ∷ None ∷ []
more_of true (Settled first second) more = more.third ∷ more.fourth ∷ []

-- all that it holds
abbrev pub held_by : State → List (Option ℕ)
held_by d = addresses_held d.place ++ more_of (is_outside d.kind) d.place d.more

-- the main address of a device that has settled: the second unit's where that is below 15, else the first one's
abbrev pub main_of : ℕ → Option ℕ → ℕ
main_of first None = first
main_of first (Some second) = if nat_lt second 15 then second else first

abbrev pub main_address : Place → ℕ
main_address Off = 15
main_address (Polls found a) = 15
main_address (Settled first second) = main_of first second

-- it has settled, with a main address below 15 or as a switch with a physical address
abbrev pub may_speak : Kind → Phys → Place → Bool
may_speak kind phys Off = false
may_speak kind phys (Polls found a) = false
may_speak kind phys (Settled first second) = nat_lt (main_of first second) 15 || (is_switch kind && not (is_nowhere phys))

abbrev pub speaks : State → Bool
speaks d = may_speak d.kind d.phys d.place

-- What a direct frame makes it say comes from that frame's destination, and all else from the main address.
abbrev pub source : Place → ℕ → ℕ
source place to = if nat_lt to 15 then to else main_address place

-- ---- the queue

abbrev pub frame_of : ℕ → ℕ → List ℕ → List ℕ
frame_of from to bytes = (from * 16 + to) ∷ bytes

-- one more, up to the greatest u64
abbrev pub one_more : ℕ → ℕ
one_more n = min (n + 1) 18446744073709551615

-- A frame of a reply, report or key: last in the queue, or counted as dropped where that is full.
-- A device that does not speak queues none, and none goes to its own addresses.
abbrev pub with_queued : ℕ → ℕ → ℕ → ℕ → List ℕ → State → State
with_queued limit at from to bytes d =
    if not (speaks d) || holds d.place to then d else (
    if nat_lt (length d.queue) limit then record d { queue = d.queue ++ record { frame = frame_of from to bytes; ready = at; ticket = None } ∷ [] }
    else record d { dropped = one_more d.dropped })
