-- A run, and what it writes (own): the next event or the next round, again and again, until neither comes before
-- the end. It writes its trace, the objects of its trace, or its line in a format.
use Rattle.std.specs.Prelude.{◌≡◌, ℕ, zero, suc, Bool, true, false, ◌+◌, max, nat_lt, nat_le, if◌then◌else◌, List, [], ◌∷◌, ◌++◌, Option, Some, None}
use Rattle.std.specs.List.{flat_map}
use Rattle.line_wave.specs.Line.{IsWave}
use Rattle.line_rounds.specs.declared.Outcome.{Outcome}
use Rattle.room_net.specs.State.{NetState, next_start}
use Rattle.room_net.specs.Apply.{net_after, event_fault}
use Rattle.room_net.specs.Step.{IsNextRound}
use Rattle.room_event.specs.declared.event.EventError.{EventError}
use Rattle.room_script.specs.declared.script.TimedEvent.{TimedEvent}
use Rattle.room_run.specs.declared.run.Totals.{Totals}
use Rattle.room_run.specs.declared.run.Reporting.{Reporting}
use Rattle.room_run.specs.declared.run.Reporting.TheVariants.{Trace, Objects, Line}
use Rattle.room_run.specs.declared.run.Turn.{Turn}
use Rattle.room_run.specs.declared.run.Turn.TheVariants.{Stop, Apply, Round}
use Rattle.edid_core.specs.declared.edid.Edid.{Edid}
use Rattle.edid_tree.specs.Path.{is_on_wire}
use Rattle.room_trace.specs.StateText.{state_line}
use Rattle.record_core.specs.declared.cell.Form.TheVariants.{Json}
use Rattle.room_trace.specs.PortText.{port_lines, port_texts}
use Rattle.room_trace.specs.Records.{end_text, round_text, state_text}
use Rattle.room_trace.specs.Room.{Room, event_object, heads_in}
use Rattle.device_core.specs.State.{State}
use Rattle.message_text.specs.ReadingText.{is_complete}
use Rattle.room_trace.specs.TraceText.{event_line, round_line, end_line}
use Rattle.capture_forms.specs.Format.{line_start, line_round, line_end}
use Rattle.edid_core.specs.Root.{HasAddress}

-- where a run stands: the network, the events that are left, and what is counted so far
pub record Config : Type 0 where
  pub net : NetState
  pub events : List TimedEvent
  pub totals : Totals

-- a run begins with all its events
abbrev pub start : NetState → List TimedEvent → Config
start net events = record { net = net; events = events; totals = record { rounds = 0; complete = 0; refused = 0 } }

-- ---- what comes next

-- there is no next round, or it does not begin before this
abbrev pub is_by : ℕ → Option ℕ → Bool
is_by at None = true
is_by at (Some begin) = nat_le at begin

abbrev pub round_turn : ℕ → Option ℕ → Turn
round_turn end None = Stop
round_turn end (Some begin) = if nat_lt begin end then Round begin else Stop

abbrev pub event_turn : ℕ → ℕ → Turn
event_turn end at = if nat_lt at end then Apply at else Stop

-- An event comes at its time, but not before the last round has closed, and before a round that begins then.
-- Nothing comes at the end or after it.
abbrev pub turn_of : ℕ → NetState → Option ℕ → Turn
turn_of end s None = round_turn end (next_start s)
turn_of end s (Some time) = if is_by (max s.close time) (next_start s) then event_turn end (max s.close time) else round_turn end (next_start s)

-- the time of the next event
abbrev pub first_time : List TimedEvent → Option ℕ
first_time [] = None
first_time (e ∷ events) = Some e.at

abbrev pub turn_at : ℕ → Config → Turn
turn_at end c = turn_of end c.net (first_time c.events)

-- ---- what is reported

-- the EDID that ports pass on, where it is given, has an address
abbrev pub HasAddressReported : Reporting → Type 0
HasAddressReported (Trace edid) = HasAddress edid
HasAddressReported (Objects edid room) = HasAddress edid
HasAddressReported (Line format) = Unit {0}

-- at the start: the port lines of the devices that are on the wire, or their objects after those of the room, or what stands first in a
-- format
abbrev pub start_reported : Reporting → NetState → List ℕ
start_reported (Trace edid) s = port_lines 0 edid (λ device. false) s.tree
start_reported (Objects edid room) s = heads_in room ++ port_texts Json 0 edid (λ device. false) s.tree
start_reported (Line format) s = line_start format

-- an event's line, and after it the port lines of the devices that come onto the wire by it
abbrev pub event_text : Option Edid → ℕ → TimedEvent → NetState → List ℕ
event_text edid at e s = event_line at e.line (event_fault s e.event) ++ port_lines at edid (is_on_wire s.tree) (net_after at e.event s).tree

-- the same as objects
abbrev pub event_objects : Option Edid → Option Room → ℕ → TimedEvent → NetState → List ℕ
event_objects edid room at e s = event_object room at e.line (event_fault s e.event) ++ port_texts Json at edid (is_on_wire s.tree) (net_after at e.event s).tree

-- of an event: its text or its objects, and nothing of the line
abbrev pub event_reported : Reporting → ℕ → TimedEvent → NetState → List ℕ
event_reported (Trace edid) at e s = event_text edid at e s
event_reported (Objects edid room) at e s = event_objects edid room at e s
event_reported (Line format) at e s = []

-- of a round, by the devices after it: its line in the trace, its object, or its wave in the format
abbrev pub round_reported : Reporting → List State → Outcome → List ℕ
round_reported (Trace edid) devices o = round_line devices o
round_reported (Objects edid room) devices o = round_text Json devices o
round_reported (Line format) devices o = line_round format o.wave

-- at the end: a state line for each device, and the end, or their objects; or the end of the line, but not before the last round has closed
abbrev pub end_reported : Reporting → ℕ → NetState → List ℕ
end_reported (Trace edid) end s = flat_map state_line s.devices ++ end_line end
end_reported (Objects edid room) end s = flat_map (state_text Json) s.devices ++ end_text Json end
end_reported (Line format) end s = line_end format (max end s.close)

-- ---- one turn, and what it reports

abbrev pub counted_event : Option EventError → Totals → Totals
counted_event None t = t
counted_event (Some error) t = record t { refused = t.refused + 1 }

abbrev pub counted_round : Bool → Totals → Totals
counted_round true t = record t { rounds = t.rounds + 1; complete = t.complete + 1 }
counted_round false t = record t { rounds = t.rounds + 1 }

abbrev pub IsEventTurn : Reporting → ℕ → List TimedEvent → Config → List ℕ → Config → Type 0
IsEventTurn reporting at [] c text d = (text ≡ []) × (d ≡ c)
IsEventTurn reporting at (e ∷ events) c text d =
    (text ≡ event_reported reporting at e c.net)
    × (d ≡ record { net = net_after at e.event c.net; events = events; totals = counted_event (event_fault c.net e.event) c.totals })

-- the round begins then, gives some outcome, and its text says that outcome
pub record IsRoundTurn (reporting : Reporting) (begin : ℕ) (before : NetState) (t : Totals) (text : List ℕ) (after : NetState) (u : Totals) : Type 0 where
  pub outcome : Outcome
  pub wave : IsWave outcome.wave
  pub next : IsNextRound before begin outcome after
  pub reported : text ≡ round_reported reporting after.devices outcome
  pub totals : u ≡ counted_round (is_complete outcome.reading.ending) t

abbrev pub IsTurnBy : Reporting → Turn → Config → List ℕ → Config → Type 0
IsTurnBy reporting Stop c text d = ⊥
IsTurnBy reporting (Apply at) c text d = IsEventTurn reporting at c.events c text d
IsTurnBy reporting (Round begin) c text d = IsRoundTurn reporting begin c.net c.totals text d.net d.totals × (d.events ≡ c.events)

abbrev pub IsTurn : Reporting → ℕ → Config → List ℕ → Config → Type 0
IsTurn reporting end c text d = IsTurnBy reporting (turn_at end c) c text d

-- ---- the whole run

-- one turn after another, and their texts one after another
abbrev pub Leads : Reporting → ℕ → ℕ → Config → List ℕ → Config → Type 0
Leads reporting end zero c text d = (text ≡ []) × (d ≡ c)
Leads reporting end (suc turns) c text d =
    (mid : Config) × (reported : List ℕ) × (rest : List ℕ) × IsTurn reporting end c reported mid × Leads reporting end turns mid rest d × (text ≡ reported ++ rest)

-- what the turns up to where the run stops tell, and what the end reports
pub record IsRunTextFrom (reporting : Reporting) (end : ℕ) (c : Config) (text : List ℕ) (totals : Totals) : Type 0 where
  pub turns : ℕ
  pub last : Config
  pub body : List ℕ
  pub leads : Leads reporting end turns c body last
  pub stops : turn_at end last ≡ Stop
  pub whole : text ≡ body ++ end_reported reporting end last.net
  pub counts : totals ≡ last.totals

-- what the start reports, and then that
pub record IsRunText (reporting : Reporting) (end : ℕ) (c : Config) (text : List ℕ) (totals : Totals) : Type 0 where
  pub rest : List ℕ
  pub run : IsRunTextFrom reporting end c rest totals
  pub whole : text ≡ start_reported reporting c.net ++ rest

-- a run writes one text
abbrev pub OneRunText : Type 0
OneRunText = (reporting : Reporting) (end : ℕ) (c : Config) (x y : List ℕ) (s t : Totals) → IsRunText reporting end c x s → IsRunText reporting end c y t → (x ≡ y) × (s ≡ t)

-- its trace: the port lines of the devices on the wire at the start, the lines of events, ports and rounds, a state line for
-- each device, and the end
abbrev pub IsTrace : Option Edid → ℕ → Config → List ℕ → Totals → Type 0
IsTrace edid = IsRunText (Trace edid)

-- a run has one trace
abbrev pub OneTrace : Type 0
OneTrace = (edid : Option Edid) (end : ℕ) (c : Config) (x y : List ℕ) (s t : Totals) → IsTrace edid end c x s → IsTrace edid end c y t → (x ≡ y) × (s ≡ t)
