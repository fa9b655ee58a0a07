-- What happens in a run, turn by turn (own): an event that was applied, or a round that was run, each with the network before it. All
-- else that is told of a turn follows: whether the event is refused, the seats of the round, the network after it.
use Rattle.std.specs.Prelude.{◌≡◌, ℕ, ◌<◌, Bool, false, List, [], ◌∷◌, length, slice_index_or, Option}
use Rattle.line_wave.specs.Line.{IsWave}
use Rattle.line_rounds.specs.declared.Outcome.{Outcome}
use Rattle.room_script.specs.declared.script.TimedEvent.{TimedEvent}
use Rattle.room_event.specs.declared.event.EventError.{EventError}
use Rattle.room_net.specs.State.{NetState}
use Rattle.room_net.specs.Apply.{net_after, event_fault}
use Rattle.room_net.specs.Step.{IsNextRound}
use Rattle.message_text.specs.ReadingText.{is_complete}
use Rattle.capture_forms.specs.Format.{line_round}
use Rattle.capture_forms.specs.declared.form.CaptureForm.{CaptureForm}
use Rattle.record_core.specs.declared.cell.Form.TheVariants.{Json}
use Rattle.room_trace.specs.Records.{round_text}
use Rattle.room_trace.specs.Room.{Room}
use Rattle.room_trace.specs.TraceText.{round_line}
use Rattle.room_run.specs.declared.run.Turn.{Turn}
use Rattle.room_run.specs.declared.run.Turn.TheVariants.{Stop, Apply, Round}
use Rattle.room_run.specs.Run.{Config, turn_at, counted_event, counted_round, event_objects, event_text}
use Rattle.edid_core.specs.declared.edid.Edid.{Edid}
use Rattle.edid_tree.specs.Path.{is_on_wire}

pub data Happening : Type 0 where
  OfEvent : (at : ℕ) → (event : TimedEvent) → (before : NetState) → Happening
  OfRound : (begin : ℕ) → (before : NetState) → (outcome : Outcome) → Happening

-- ---- one turn

-- an event was applied, and counted where it was refused
abbrev pub after_event : ℕ → Config → TimedEvent → List TimedEvent → Config
after_event at c e others = record { net = net_after at e.event c.net; events = others; totals = counted_event (event_fault c.net e.event) c.totals }

pub record IsEvent (at : ℕ) (c : Config) (x : Happening) (d : Config) : Type 0 where
  pub event : TimedEvent
  pub others : List TimedEvent
  pub next : c.events ≡ event ∷ others
  pub is : x ≡ OfEvent at event c.net
  pub after : d ≡ after_event at c event others

pub record IsRoundOf (begin : ℕ) (c : Config) (x : Happening) (d : Config) : Type 0 where
  pub outcome : Outcome
  pub wave : IsWave outcome.wave
  pub next : IsNextRound c.net begin outcome d.net
  pub is : x ≡ OfRound begin c.net outcome
  pub totals : d.totals ≡ counted_round (is_complete outcome.reading.ending) c.totals
  pub events : d.events ≡ c.events

abbrev pub HappensBy : Turn → Config → Happening → Config → Type 0
HappensBy Stop c x d = ⊥
HappensBy (Apply at) c x d = IsEvent at c x d
HappensBy (Round begin) c x d = IsRoundOf begin c x d

abbrev pub Happens : ℕ → Config → Happening → Config → Type 0
Happens end c x d = HappensBy (turn_at end c) c x d

-- ---- one turn after another

abbrev pub Goes : ℕ → Config → List Happening → Config → Type 0
Goes end c [] d = d ≡ c
Goes end c (x ∷ xs) d = (mid : Config) × Happens end c x mid × Goes end mid xs d

-- ---- what is said to a reporter

-- an event was applied: this is the network after it, and these devices were on the wire before it
pub record IsApplied (at : ℕ) (event : TimedEvent) (before : NetState) (refused : Option EventError) (was : List Bool) (after : NetState) : Type 0 where
  pub after_is : after ≡ net_after at event.event before
  pub refused_is : refused ≡ event_fault before event.event
  pub was_is : (k : ℕ) → k < length before.tree → slice_index_or was k false ≡ is_on_wire before.tree k

-- ---- the trace: of an event its text, of a round its line

abbrev pub text_of : Option Edid → Happening → List ℕ
text_of edid (OfEvent at e before) = event_text edid at e before
text_of edid (OfRound begin before o) = round_line before.devices o

-- ---- its objects, in a room or without

abbrev pub objects_of : Option Edid → Option Room → Happening → List ℕ
objects_of edid room (OfEvent at e before) = event_objects edid room at e before
objects_of edid room (OfRound begin before o) = round_text Json before.devices o

-- what stays of a reporter that adds them: the EDID that ports pass on, and the room
abbrev pub given : Option Edid → Option Room → Option Edid × Option Room
given edid room = (edid, room)

-- ---- the line in a format: of an event nothing, of a round its line

abbrev pub line_of_turn : CaptureForm → Happening → List ℕ
line_of_turn format (OfEvent at e before) = []
line_of_turn format (OfRound begin before o) = line_round format o.wave
