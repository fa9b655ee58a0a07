-- What events and rounds leave as it was (own).
use Rattle.std.specs.Prelude.{◌≡◌, ℕ, List, length}
use Rattle.line_wave.specs.declared.Stretch.{Stretch}
use Rattle.line_rounds.specs.declared.Outcome.{Outcome}
use Rattle.line_rounds.specs.Contend.{AreFrames}
use Rattle.edid_tree.specs.Node.{Node}
use Rattle.room_event.specs.declared.event.Event.{Event}
use Rattle.room_event.specs.Events.{IsFramedEvent}
use Rattle.room_net.specs.State.{NetState, first_net}
use Rattle.room_net.specs.Apply.{net_after}
use Rattle.room_net.specs.Step.{after_round, seats_of}
use Rattle.room_net.specs.Framed.{AreFramed}

-- an event leaves the pulses, the close and the rest, and how many devices there are
pub record Kept (s t : NetState) : Type 0 where
  pub pulses : t.pulses ≡ s.pulses
  pub close : t.close ≡ s.close
  pub rest : t.rest ≡ s.rest
  pub count : length t.tree ≡ length s.tree
  pub devices : length t.devices ≡ length s.devices

abbrev pub EventsKeep : Type 0
EventsKeep = (at : ℕ) (event : Event) (s t : NetState) → t ≡ net_after at event s → Kept s t

-- a run begins with a device for each node of its tree,
abbrev pub StartsHaveAll : Type 0
StartsHaveAll = (tree : List Node) (pulses : List Stretch) → length (first_net tree pulses).devices ≡ length tree

-- and a round leaves how many there are
abbrev pub RoundsKeepCount : Type 0
RoundsKeepCount = (s : NetState) (begin : ℕ) (o : Outcome) → length (after_round s begin o).devices ≡ length s.devices

-- What devices have to send is framed at the start,
abbrev pub StartsAreFramed : Type 0
StartsAreFramed = (tree : List Node) (pulses : List Stretch) → AreFramed (first_net tree pulses)

-- after an event that hands in no empty frame,
abbrev pub EventsKeepFramed : Type 0
EventsKeepFramed = (at : ℕ) (event : Event) (s : NetState) → IsFramedEvent event → AreFramed s → AreFramed (net_after at event s)

-- and after a round;
abbrev pub RoundsKeepFramed : Type 0
RoundsKeepFramed = (s : NetState) (begin : ℕ) (o : Outcome) → AreFramed s → AreFramed (after_round s begin o)

-- so who sends in a round sends a frame.
abbrev pub FramedSeatsFit : Type 0
FramedSeatsFit = (s : NetState) (begin : ℕ) → AreFramed s → AreFrames (seats_of s begin)
