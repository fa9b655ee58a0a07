-- What became of a frame that was handed in, once it is over (own).
use Rattle.std.specs.Prelude.{◌≡◌, ℕ, ◌+◌, ◌<◌, ◌&&◌, ◌||◌, not, nat_le, nat_lt, min, Bool, true, if◌then◌else◌, List, [], ◌∷◌, length, Option, Some, None, is_some}
use Rattle.line_frames.specs.declared.Fate.{Fate}
use Rattle.line_frames.specs.declared.Fate.TheVariants.{Delivered, Unacked, Lost, Broken}
use Rattle.device_core.specs.declared.device.Queued.{Queued}
use Rattle.device_core.specs.declared.device.Ticket.{Ticket}
use Rattle.device_core.specs.declared.sent.Sent.{Sent}
use Rattle.device_core.specs.State.{State}
use Rattle.device_core.specs.Place.{after_sending, front_is_counted, front_is_poll, most_again, polled_at}

-- no attempt at the front frame is left
abbrev pub is_last : State → Bool
is_last d = nat_le (most_again d.queue) d.attempts

-- this fate is the last one of the front frame
abbrev pub ends_front : State → Fate → Bool
ends_front d Delivered = true
ends_front d Lost = front_is_counted d.queue && is_last d
ends_front d Unacked = front_is_poll d.queue || is_last d
ends_front d Broken = not (front_is_poll d.queue) && is_last d

-- of one that was handed in its line, its last fate, and how many attempts it had
abbrev pub sent_with : State → Fate → Option Ticket → Option Sent
sent_with d fate None = None
sent_with d fate (Some ticket) = if ends_front d fate then Some (record { line = ticket.line; fate = fate; attempts = min (d.attempts + 1) 255 }) else None

abbrev pub sent_from : State → Fate → List Queued → Option Sent
sent_from d fate [] = None
sent_from d fate (q ∷ queue) = sent_with d fate q.ticket

-- the poll of an allocation was handed in by nobody
abbrev pub sent_of : State → Fate → Option Sent
sent_of d fate = if is_some (polled_at d.place) then None else sent_from d fate d.queue

-- a frame is over exactly where its device has less to send than before
abbrev pub FramesEnd : Type 0
FramesEnd = (limit at : ℕ) (d : State) (fate : Fate) → polled_at d.place ≡ None → 0 < length d.queue
    → ends_front d fate ≡ nat_lt (length (after_sending limit d fate at).queue) (length d.queue)
