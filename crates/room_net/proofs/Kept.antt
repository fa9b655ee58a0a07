-- Events leave pulses, close and rest, and events and rounds how many devices there are.
use Rattle.std.proofs.Common.{ℕ, List, Option, Some, None, refl, sym, ◌∙◌, subst}
use Rattle.device_core.specs.declared.device.Ticket.{Ticket}
use Rattle.room_event.specs.declared.event.Event.{Event}
use Rattle.room_event.specs.declared.event.Event.TheVariants.{Plug, Unplug, Key, Send, SendNamed, Outside}
use Rattle.room_event.specs.declared.event.EventError.{EventError}
use Rattle.room_net.specs.State.{NetState, loose, moved_by}
use Rattle.room_net.specs.Apply.{applied_unless, event_fault, named_frame, after_sent}
use Rattle.room_net.specs.Kept.{EventsKeep, Kept, RoundsKeepCount, StartsHaveAll}
use Rattle.room_net.proofs.Each.{length-changed_at, length-each_from, length-loose}
use Rattle.room_net.proofs.Soundness.{length-with_plug}

-- ---- an event

kept_sent : (at device : ℕ) (frame : Option (List ℕ)) (ticket : Ticket) (s : NetState) → Kept s (record (after_sent at device frame ticket s) { heard = None })
kept_sent at device None ticket s = record { pulses = refl; close = refl; rest = refl; count = refl; devices = refl }
kept_sent at device (Some frame) ticket s = record { pulses = refl; close = refl; rest = refl; count = refl; devices = length-changed_at device _ s.devices }

kept_unless : (fault : Option EventError) (at : ℕ) (event : Event) (s : NetState) → Kept s (applied_unless fault at event s)
kept_unless (Some error) at event s = record { pulses = refl; close = refl; rest = refl; count = refl; devices = refl }
kept_unless None at (Plug child parent port) s =
    record { pulses = refl; close = refl; rest = refl; count = length-with_plug s.tree child _; devices = length-each_from 0 (moved_by at _) s.devices }
kept_unless None at (Unplug child) s =
    record { pulses = refl; close = refl; rest = refl; count = length-with_plug s.tree child _; devices = length-each_from 0 (moved_by at _) s.devices }
kept_unless None at (Key device key press) s = record { pulses = refl; close = refl; rest = refl; count = refl; devices = length-changed_at device _ s.devices }
kept_unless None at (Send device frame ticket) s = record { pulses = refl; close = refl; rest = refl; count = refl; devices = length-changed_at device _ s.devices }
kept_unless None at (SendNamed device names frame ticket) s = kept_sent at device (named_frame s.devices names frame) ticket s
kept_unless None at (Outside device act) s = record { pulses = refl; close = refl; rest = refl; count = refl; devices = length-changed_at device _ s.devices }

pub event_keeps : EventsKeep
event_keeps at event s t e = subst (Kept s) (sym e) (kept_unless (event_fault s event) at event s)

-- ---- how many devices there are

pub started_count : StartsHaveAll
started_count tree pulses = length-each_from 0 (moved_by 0 tree) (loose tree) ∙ length-loose tree

pub round_count : RoundsKeepCount
round_count s begin o = length-each_from 0 _ s.devices
