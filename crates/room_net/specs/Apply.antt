-- What an event does (own).
use Rattle.std.specs.Prelude.{ℕ, suc, zero, ◌/◌, ◌%◌, nat_lt, if◌then◌else◌, List, [], ◌∷◌, drop, slice_get, slice_index, Option, Some, None, option_and_then, option_map}
use Rattle.edid_tree.specs.Tree.{plug_fault, tree_with_plug, unplug_fault, tree_without_plug}
use Rattle.device_core.specs.State.{State, held_by, frame_of}
use Rattle.device_core.specs.Place.{is_off, submit_fault, after_submission}
use Rattle.device_core.specs.declared.device.SubmitError.{SubmitError}
use Rattle.device_core.specs.declared.device.Ticket.{Ticket}
use Rattle.device_core.specs.declared.device.SubmitError.TheVariants.{NoAddress, OffWire}
use Rattle.device_core.specs.Keys.{key_fault, after_key}
use Rattle.device_core.specs.Outside.{act_fault, after_act}
use Rattle.room_event.specs.declared.event.Event.{Event}
use Rattle.room_event.specs.declared.event.Event.TheVariants.{Plug, Unplug, Key, Send, SendNamed, Outside}
use Rattle.room_event.specs.declared.event.EventError.{EventError}
use Rattle.room_event.specs.declared.event.EventError.TheVariants as refused
use Rattle.room_event.specs.declared.event.HeaderNames.{HeaderNames}
use Rattle.room_net.specs.State.{NetState, with_tree}

-- ---- names in a header block

-- the first of these addresses: 15 is none (CEC 10.2)
abbrev pub first_of : List (Option ℕ) → Option ℕ
first_of [] = None
first_of (None ∷ units) = first_of units
first_of (Some a ∷ units) = if nat_lt a 15 then Some a else first_of units

-- the first address that the device of this number holds
abbrev pub held_first : List State → ℕ → Option ℕ
held_first devices number = option_and_then (λ d. first_of (held_by d)) (slice_get devices number)

-- the address that stands for a name; where there is none, the frame's own
abbrev pub address_for : List State → Option ℕ → ℕ → Option ℕ
address_for devices None own = Some own
address_for devices (Some number) own = held_first devices number

-- The frame with these addresses in its header block, the initiator's in the high four bits (CEC 6.1). None where a device of a name
-- holds none.
abbrev pub named_frame : List State → HeaderNames → List ℕ → Option (List ℕ)
named_frame devices names bytes =
    option_and_then (λ from. option_map (λ to. frame_of from to (drop 1 bytes)) (address_for devices names.destination (slice_index bytes 0 % 16)))
    (address_for devices names.initiator (slice_index bytes 0 / 16))

-- ---- frames that are handed in

-- why a device can't send one with a name that stands for no address
abbrev pub nameless : State → SubmitError
nameless d = if is_off d.place then OffWire else NoAddress

-- Why one is refused: as its device refuses it. None is a frame with a name that stands for no address.
abbrev pub send_fault : List State → ℕ → Option (List ℕ) → Option SubmitError
send_fault devices device (Some frame) = option_and_then (λ d. submit_fault 16 d frame) (slice_get devices device)
send_fault devices device None = option_map nameless (slice_get devices device)

-- why an event is refused: as the tree or the device refuses it
abbrev pub event_fault : NetState → Event → Option EventError
event_fault s (Plug child parent port) = option_map refused.Plug (plug_fault s.tree child parent port)
event_fault s (Unplug child) = option_map refused.Unplug (unplug_fault s.tree child)
event_fault s (Key device key press) = option_map refused.Key (option_and_then (λ d. key_fault d key) (slice_get s.devices device))
event_fault s (Send device frame ticket) = option_map refused.Send (send_fault s.devices device (Some frame))
event_fault s (SendNamed device names frame ticket) = option_map refused.Send (send_fault s.devices device (named_frame s.devices names frame))
event_fault s (Outside device act) = option_map refused.Key (option_and_then (λ d. act_fault d) (slice_get s.devices device))

-- the device of this number changed
abbrev pub changed_at : ℕ → (State → State) → List State → List State
changed_at number change [] = []
changed_at zero change (d ∷ devices) = change d ∷ devices
changed_at (suc number) change (d ∷ devices) = d ∷ changed_at number change devices

-- the network after a frame that is taken, with what is said of it
abbrev pub after_sent : ℕ → ℕ → Option (List ℕ) → Ticket → NetState → NetState
after_sent at device (Some frame) ticket s = record s { devices = changed_at device (λ d. after_submission 16 d frame ticket at) s.devices }
after_sent at device None ticket s = s

-- the network after an event that is not refused
abbrev pub after_accepted : ℕ → Event → NetState → NetState
after_accepted at (Plug child parent port) s = with_tree at (tree_with_plug s.tree child parent port) s
after_accepted at (Unplug child) s = with_tree at (tree_without_plug s.tree child) s
after_accepted at (Key device key press) s = record s { devices = changed_at device (λ d. after_key 16 d key press at) s.devices }
after_accepted at (Send device frame ticket) s = after_sent at device (Some frame) ticket s
after_accepted at (SendNamed device names frame ticket) s = after_sent at device (named_frame s.devices names frame) ticket s
after_accepted at (Outside device act) s = record s { devices = changed_at device (λ d. after_act d act) s.devices }

-- A round that was begun is given up by an event; one that is refused changes nothing.
abbrev pub applied_unless : Option EventError → ℕ → Event → NetState → NetState
applied_unless None at event s = record (after_accepted at event s) { heard = None }
applied_unless (Some fault) at event s = s

abbrev pub net_after : ℕ → Event → NetState → NetState
net_after at event s = applied_unless (event_fault s event) at event s
