-- Joining, leaving, logical address allocation (CEC 10.2.1), and the fates of frames that were sent: retransmission
-- (CEC 7.1) and the signal free time that is due next (CEC 9.1). That a poll is tried again without limit, and how attempts
-- are counted, are this profile's own.
use Rattle.std.specs.Prelude.{ℕ, ◌==◌, ◌+◌, ◌-◌, ◌*◌, ◌/◌, ◌%◌, min, ◌&&◌, ◌||◌, Bool, true, false, not, nat_lt, List, [], ◌∷◌, ◌++◌, length, slice_index, if◌then◌else◌, Option, Some, None, is_some}
use Rattle.text_core.specs.declared.kind.Kind.{Kind}
use Rattle.text_core.specs.declared.phys.Phys.{Phys}
use Rattle.device_core.specs.declared.place.Place.{Place}
use Rattle.device_core.specs.declared.place.Place.TheVariants.{Off, Polls, Settled}
use Rattle.line_frames.specs.declared.Fate.{Fate}
use Rattle.line_frames.specs.declared.Fate.TheVariants.{Delivered, Unacked, Lost, Broken}
use Rattle.line_frames.specs.declared.free_time.FreeTime.{FreeTime}
use Rattle.line_frames.specs.declared.free_time.FreeTime.TheVariants.{Retry, NewInitiator, PresentInitiator}
use Rattle.device_core.specs.declared.device.Queued.{Queued}
use Rattle.device_core.specs.declared.device.Ticket.{Ticket}
use Rattle.device_core.specs.declared.device.SubmitError.{SubmitError}
use Rattle.device_core.specs.declared.device.SubmitError.TheVariants.{QueueFull, OwnAddress, NoAddress, OffWire}
use Rattle.device_features.specs.Kinds.{addresses, is_nowhere, is_outside, is_switch, second_addresses, type_of}
use Rattle.device_features.specs.Fresh.{fresh_record}
use Rattle.device_core.specs.State.{State, addresses_held, holds, with_queued}

-- ---- logical address allocation (CEC 10.2.1), unit after unit (own: a box has two)

-- A first unit has settled at an address: then the second one begins with its list, if there is one.
abbrev pub begins : ℕ → List ℕ → Place
begins first [] = Settled first None
begins first (a ∷ rest) = Polls (Some first) a

-- A unit has settled at an address. `found` is where the first one has settled, where it is the second that polls.
abbrev pub settles : Kind → Option ℕ → ℕ → Place
settles kind None a = begins a (second_addresses kind)
settles kind (Some first) a = Settled first (Some a)

-- the next poll of a unit, or settled at 15
abbrev pub tries : Kind → Option ℕ → List ℕ → Place
tries kind found [] = settles kind found 15
tries kind found (a ∷ rest) = Polls found a

-- the same after the address that was found taken
abbrev pub tries_after : Kind → Option ℕ → ℕ → List ℕ → Place
tries_after kind found a [] = settles kind found 15
tries_after kind found a (b ∷ rest) = if a == b then tries kind found rest else tries_after kind found a rest

-- the list of the unit that polls
abbrev pub list_of : Kind → Option ℕ → List ℕ
list_of kind None = addresses kind
list_of kind (Some first) = second_addresses kind

-- where a device stands after the fate of a poll
abbrev pub place_after_poll : Kind → Option ℕ → ℕ → Fate → Place
place_after_poll kind found a Unacked = settles kind found a
place_after_poll kind found a Delivered = tries_after kind found a (list_of kind found)
place_after_poll kind found a _ = Polls found a

-- The same by all fates so far: an address whose poll was unacknowledged is held, each one before it was found taken,
-- and at the end of its list a unit settles at 15.
abbrev pub place_after_search : (ℕ → Place) → (ℕ → List Fate → Place) → List ℕ → List Fate → Place
place_after_search polls settled [] fates = settled 15 fates
place_after_search polls settled (a ∷ rest) [] = polls a
place_after_search polls settled (a ∷ rest) (Unacked ∷ fates) = settled a fates
place_after_search polls settled (a ∷ rest) (Delivered ∷ fates) = place_after_search polls settled rest fates
place_after_search polls settled (a ∷ rest) (Lost ∷ fates) = place_after_search polls settled (a ∷ rest) fates
place_after_search polls settled (a ∷ rest) (Broken ∷ fates) = place_after_search polls settled (a ∷ rest) fates

-- the second unit's search, with the fates after those of the first one's
abbrev pub second_after : List ℕ → ℕ → List Fate → Place
second_after [] first fates = Settled first None
second_after (a ∷ rest) first fates = place_after_search (λ b. Polls (Some first) b) (λ second _. Settled first (Some second)) (a ∷ rest) fates

abbrev pub place_after : Kind → List Fate → Place
place_after kind fates = place_after_search (λ a. Polls None a) (second_after (second_addresses kind)) (addresses kind) fates

-- one step of it
abbrev pub place_after_fate : Kind → Place → Fate → Place
place_after_fate kind (Polls found a) fate = place_after_poll kind found a fate
place_after_fate kind place fate = place

-- every unit at 15
abbrev pub unregistered : List ℕ → Place
unregistered [] = Settled 15 None
unregistered (a ∷ rest) = Settled 15 (Some 15)

-- where a device stands when it joins
abbrev pub start_place : Kind → Phys → Place
start_place kind phys = if is_nowhere phys then unregistered (second_addresses kind) else tries kind None (addresses kind)

-- a new device
abbrev pub fresh : Kind → List ℕ → ℕ → State
fresh kind name ports = record {
  kind = kind;
  name = name;
  ports = ports;
  number = 0;
  phys = record { high = 255; low = 255 };
  place = Off;
  more = record { third = None; fourth = None };
  record_of = fresh_record kind ports;
  queue = [];
  attempts = 0;
  class = NewInitiator;
  poll_ready = 0;
  dropped = 0;
}

-- Report Physical Address of a unit, to all; one without an address says nothing, but for a switch, which never has one
abbrev pub reported_from : ℕ → ℕ → Option ℕ → State → State
reported_from limit at None d = d
reported_from limit at (Some from) d =
    if nat_lt from 15 || is_switch d.kind then with_queued limit at from 15 (0x84 ∷ d.phys.high ∷ d.phys.low ∷ type_of d.kind from ∷ []) d else d

-- one after another
abbrev pub reported_by : ℕ → ℕ → List (Option ℕ) → State → State
reported_by limit at [] d = d
reported_by limit at (unit ∷ units) d = reported_by limit at units (reported_from limit at unit d)

-- the report of each unit, once all have settled; a device that does not speak queues nothing
abbrev pub with_reports : ℕ → ℕ → State → State
with_reports limit at d = reported_by limit at (addresses_held d.place) d

-- a device that has joined
abbrev pub after_joining : ℕ → State → ℕ → Phys → ℕ → State
after_joining limit d number phys at = with_reports limit at (record (fresh d.kind d.name d.ports) {
  number = number;
  phys = phys;
  place = start_place d.kind phys;
  poll_ready = at;
})

-- a device that leaves is a new one again
abbrev pub after_leaving : State → State
after_leaving d = fresh d.kind d.name d.ports

-- ---- fates

-- the signal free time after a poll (CEC 9.1)
abbrev pub class_of_poll : Fate → FreeTime
class_of_poll Lost = NewInitiator
class_of_poll Broken = Retry
class_of_poll _ = PresentInitiator

-- the front frame has ended
abbrev pub after_front : State → State
after_front d = record d { queue = rest_of d.queue; attempts = 0; class = PresentInitiator }
  where
    rest_of : List Queued → List Queued
    rest_of [] = []
    rest_of (q ∷ qs) = qs

-- how many attempts a frame has in all, where who hands it in says so (own)
abbrev pub attempts_of : Option Ticket → Option ℕ
attempts_of None = None
attempts_of (Some ticket) = ticket.attempts

-- how often it is sent again at most: five times (CEC 7.1), or as often as that leaves
abbrev pub again_by : Option ℕ → ℕ
again_by None = 5
again_by (Some attempts) = min (attempts - 1) 5

-- of the front frame
abbrev pub most_again : List Queued → ℕ
most_again [] = 5
most_again (q ∷ qs) = again_by (attempts_of q.ticket)

-- retransmission (CEC 7.1): a failed attempt, after the last of which the frame is given up
abbrev pub after_failure : State → State
after_failure d = if nat_lt d.attempts (most_again d.queue) then record d { attempts = d.attempts + 1; class = Retry } else after_front d

-- it is said how many attempts the front frame has
abbrev pub front_is_counted : List Queued → Bool
front_is_counted [] = false
front_is_counted (q ∷ qs) = is_some (attempts_of q.ticket)

-- a frame without an opcode is a poll; one whose attempts are counted is tried as any other frame (own)
abbrev pub front_is_poll : List Queued → Bool
front_is_poll [] = false
front_is_poll (q ∷ qs) = (length q.frame == 1) && not (is_some (attempts_of q.ticket))

-- An arbitration that was lost is an attempt where they are counted (own).
abbrev pub after_loss : State → State
after_loss d = if front_is_counted d.queue then after_failure d else d

-- the fate of a queued frame
abbrev pub frame_sent : State → Fate → State
frame_sent d Lost = record (after_loss d) { class = NewInitiator }
frame_sent d Delivered = after_front d
frame_sent d Unacked = if front_is_poll d.queue then after_front d else after_failure d
frame_sent d Broken = if front_is_poll d.queue then record d { class = Retry } else after_failure d

-- the address that it polls
abbrev pub polled_at : Place → Option ℕ
polled_at (Polls found a) = Some a
polled_at _ = None

-- the fate of a poll moves it by a step
abbrev pub poll_sent : ℕ → State → Fate → ℕ → State
poll_sent limit d fate at = with_reports limit at (record d { place = place_after_fate d.kind d.place fate; poll_ready = at; class = class_of_poll fate })

-- the fate of a poll of an address, or of a queued frame
abbrev pub sent_by : ℕ → State → Fate → ℕ → Option ℕ → State
sent_by limit d fate at (Some a) = poll_sent limit d fate at
sent_by limit d fate at None = frame_sent d fate

abbrev pub after_sending : ℕ → State → Fate → ℕ → State
after_sending limit d fate at = sent_by limit d fate at (polled_at d.place)

-- a device that sent last, once another one has sent
abbrev pub class_after_waiting : FreeTime → FreeTime
class_after_waiting PresentInitiator = NewInitiator
class_after_waiting class = class

-- a device that was no contender where others were
abbrev pub after_waiting : State → State
after_waiting d = record d { class = class_after_waiting d.class }

-- ---- submit

-- a unit has settled at this address
abbrev pub is_at : Option ℕ → ℕ → Bool
is_at None from = false
is_at (Some a) from = a == from

-- all units have settled, and one of them at this address
abbrev pub settled_at : Place → ℕ → Bool
settled_at (Settled first second) from = (first == from) || is_at second from
settled_at _ from = false

abbrev pub is_off : Place → Bool
is_off Off = true
is_off _ = false

-- the first reason against a frame; a device from outside sends from and to any address (own)
abbrev pub submit_fault : ℕ → State → List ℕ → Option SubmitError
submit_fault limit d bytes =
    if is_off d.place then Some OffWire else (
    if not (is_outside d.kind || settled_at d.place (slice_index bytes 0 / 16)) then Some NoAddress else (
    if not (is_outside d.kind) && holds d.place (slice_index bytes 0 % 16) then Some OwnAddress else (
    if nat_lt (length d.queue) limit then None else Some QueueFull)))

abbrev pub submitted_by : State → List ℕ → Ticket → ℕ → Option SubmitError → State
submitted_by d bytes ticket at None = record d { queue = d.queue ++ record { frame = bytes; ready = at; ticket = Some ticket } ∷ [] }
submitted_by d bytes ticket at (Some fault) = d

-- a frame that is handed in stands last, with what is said of it, unless it is refused
abbrev pub after_submission : ℕ → State → List ℕ → Ticket → ℕ → State
after_submission limit d bytes ticket at = submitted_by d bytes ticket at (submit_fault limit d bytes)

-- ---- what it has to send

abbrev pub front_by : Option ℕ → List Queued → Option (List ℕ)
front_by (Some a) queue = Some ((a * 16 + a) ∷ [])
front_by None [] = None
front_by None (q ∷ queue) = Some q.frame

-- While it allocates, the poll of an address, which stands in no queue; else the front of its queue.
abbrev pub front_of : State → Option (List ℕ)
front_of d = front_by (polled_at d.place) d.queue

abbrev pub ready_by : Option ℕ → ℕ → List Queued → Option ℕ
ready_by (Some a) poll_ready queue = Some poll_ready
ready_by None poll_ready [] = None
ready_by None poll_ready (q ∷ queue) = Some q.ready

-- since when that is ready
abbrev pub ready_of : State → Option ℕ
ready_of d = ready_by (polled_at d.place) d.poll_ready d.queue

-- it still looks for an address
abbrev pub is_allocating : State → Bool
is_allocating d = is_some (polled_at d.place)

abbrev pub is_on_wire : State → Bool
is_on_wire d = not (is_off d.place)
