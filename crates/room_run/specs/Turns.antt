-- What holds of one turn, and of turns one after another (own).
use Rattle.std.specs.Prelude.{◌≡◌, ℕ, ◌+◌, ◌<◌, ◌≤◌, Bool, true, false, List, ◌∷◌, ◌++◌, length, max, slice_index_or, Option, Some}
use Rattle.std.specs.List.{flat_map}
use Rattle.line_wave.specs.Bounds.{latest_instant}
use Rattle.line_wave.specs.Line.{IsWave}
use Rattle.line_rounds.specs.Bounds.{longest_pulsed_round}
use Rattle.line_rounds.specs.declared.Outcome.{Outcome}
use Rattle.line_rounds.specs.OneOutcome.{SameOutcome}
use Rattle.edid_core.specs.declared.edid.Edid.{Edid}
use Rattle.edid_tree.specs.Node.{Node}
use Rattle.edid_tree.specs.Path.{is_on_wire}
use Rattle.message_text.specs.ReadingText.{is_complete}
use Rattle.room_event.specs.declared.event.EventError.{EventError}
use Rattle.room_script.specs.Script.{IsSchedule}
use Rattle.room_script.specs.declared.script.TimedEvent.{TimedEvent}
use Rattle.room_net.specs.State.{NetState, next_start}
use Rattle.room_net.specs.Apply.{net_after, event_fault}
use Rattle.room_net.specs.Step.{IsNextRound}
use Rattle.room_net.specs.Progress.{IsProgress}
use Rattle.room_trace.specs.PortText.{port_lines}
use Rattle.room_trace.specs.Room.{Room}
use Rattle.room_run.specs.declared.run.Totals.{Totals}
use Rattle.room_run.specs.declared.run.Reporting.{Reporting}
use Rattle.room_run.specs.declared.run.Reporting.TheVariants.{Objects, Trace}
use Rattle.room_run.specs.declared.run.Turn.{Turn}
use Rattle.room_run.specs.declared.run.Turn.TheVariants.{Stop, Apply, Round}
use Rattle.room_run.specs.Run.{Config, counted_event, counted_round, end_reported, event_reported, first_time, start_reported, turn_at, turn_of, IsRoundTurn, IsRunText, IsRunTextFrom, IsTurn, IsTurnBy, Leads}
use Rattle.room_run.specs.Happening.{Happening, OfEvent, OfRound, objects_of, text_of, Goes, Happens, HappensBy}

-- ---- how far a turn brings the run

-- a round's turn begins at the next start, before the end
abbrev pub RoundTurnsBegin : Type 0
RoundTurnsBegin = (end : ℕ) (s : NetState) (time : Option ℕ) (x : ℕ) → turn_of end s time ≡ Round x → (next_start s ≡ Some x) × (x < end)

-- a round brings the rest and the close on
pub record Brought (end : ℕ) (s t : NetState) : Type 0 where
  pub sooner : s.rest < t.rest
  pub before : s.rest < end
  pub close : t.close ≤ max latest_instant (end + longest_pulsed_round)
  pub rest : t.rest ≤ max latest_instant (end + longest_pulsed_round)
  pub tree : t.tree ≡ s.tree

abbrev pub RoundsBringOn : Type 0
RoundsBringOn = (end begin : ℕ) (net new : NetState) (totals counted : Totals) (o : Outcome) → IsProgress net begin new → begin < end
    → IsWave o.wave → IsNextRound net begin o new → counted ≡ counted_round (is_complete o.reading.ending) totals → Brought end net new

-- the events that are left are in order
abbrev pub SchedulesGoOn : Type 0
SchedulesGoOn = (count end from : ℕ) (rest : List TimedEvent) (e : TimedEvent) (others : List TimedEvent) → rest ≡ e ∷ others → IsSchedule count end from rest
    → IsSchedule count end e.at others

-- ---- what it counts

-- an event leaves how many rounds there were,
abbrev pub EventsKeepRounds : Type 0
EventsKeepRounds = (fault : Option EventError) (totals : Totals) (rest : ℕ) → totals.rounds ≤ rest → (counted_event fault totals).rounds ≤ rest

-- and how many of them were complete,
abbrev pub EventsKeepComplete : Type 0
EventsKeepComplete = (fault : Option EventError) (totals : Totals) → totals.complete ≤ totals.rounds → (counted_event fault totals).complete ≤ (counted_event fault totals).rounds

-- and counts itself at most;
abbrev pub EventsAreRefused : Type 0
EventsAreRefused = (fault : Option EventError) (totals : Totals) (rest : List TimedEvent) (e : TimedEvent) (others : List TimedEvent) (most : ℕ) → rest ≡ e ∷ others
    → totals.refused + length rest ≤ most → (counted_event fault totals).refused + length others ≤ most

-- a round counts itself.
abbrev pub RoundsAreCounted : Type 0
RoundsAreCounted = (old new : Totals) (is : Bool) → new ≡ counted_round is old
    → (new.rounds ≡ old.rounds + 1) × (new.complete ≤ old.complete + 1) × (new.refused ≡ old.refused)

-- ---- what happens in it, by what the calls report

-- an event
abbrev pub EventsHappen : Type 0
EventsHappen = (end at : ℕ) (net new : NetState) (e : TimedEvent) (rest others : List TimedEvent) (totals counted : Totals)
    → rest ≡ e ∷ others → turn_of end net (first_time rest) ≡ Apply at → new ≡ net_after at e.event net → counted ≡ counted_event (event_fault net e.event) totals
    → Happens end (record { net = net; events = rest; totals = totals }) (OfEvent at e net) (record { net = new; events = others; totals = counted })

-- a round
abbrev pub RoundsHappen : Type 0
RoundsHappen = (end begin : ℕ) (net new : NetState) (rest : List TimedEvent) (totals counted : Totals) (o : Outcome)
    → turn_of end net (first_time rest) ≡ Round begin → IsWave o.wave → IsNextRound net begin o new → counted ≡ counted_round (is_complete o.reading.ending) totals
    → Happens end (record { net = net; events = rest; totals = totals }) (OfRound begin net o) (record { net = new; events = rest; totals = counted })

-- the same as turns that report a text: an event's,
abbrev pub EventTurns : Type 0
EventTurns = (reporting : Reporting) (end at : ℕ) (net : NetState) (e : TimedEvent) (others : List TimedEvent) (totals : Totals) → turn_of end net (first_time (e ∷ others)) ≡ Apply at
    → IsTurn reporting end (record { net = net; events = e ∷ others; totals = totals }) (event_reported reporting at e net)
    (record { net = net_after at e.event net; events = others; totals = counted_event (event_fault net e.event) totals })

-- and a round's
abbrev pub RoundTurns : Type 0
RoundTurns = (reporting : Reporting) (end begin : ℕ) (net after : NetState) (events : List TimedEvent) (totals counted : Totals) (line : List ℕ) → turn_of end net (first_time events) ≡ Round begin
    → IsRoundTurn reporting begin net totals line after counted
    → IsTurn reporting end (record { net = net; events = events; totals = totals }) line (record { net = after; events = events; totals = counted })

-- ---- one text

-- outcomes that report the same are one
abbrev pub SameOutcomesAreOne : Type 0
SameOutcomesAreOne = (o p : Outcome) → SameOutcome o p → o ≡ p

-- a turn reports one text, and leads to one place
abbrev pub TurnsAreOne : Type 0
TurnsAreOne = (reporting : Reporting) (turn : Turn) (c : Config) (line other : List ℕ) (d e : Config) → IsTurnBy reporting turn c line d → IsTurnBy reporting turn c other e → (line ≡ other) × (d ≡ e)

-- there is no turn where the run stops
abbrev pub NoneAfterStop : Type 0
NoneAfterStop = (reporting : Reporting) (end : ℕ) (c : Config) (line : List ℕ) (d : Config) → turn_at end c ≡ Stop → IsTurn reporting end c line d → ⊥

-- what is said of each turn is what is reported of it
abbrev pub SaysOf : Reporting → (Happening → List ℕ) → Type 0
SaysOf reporting said = (turn : Turn) (c : Config) (x : Happening) (d : Config) → HappensBy turn c x d → IsTurnBy reporting turn c (said x) d

abbrev pub TracesSay : Type 0
TracesSay = (edid : Option Edid) → SaysOf (Trace edid) (text_of edid)

-- and so are the objects of it
abbrev pub ObjectsSay : Type 0
ObjectsSay = (edid : Option Edid) (room : Option Room) → SaysOf (Objects edid room) (objects_of edid room)

-- what the turns so far told is the front of the text
abbrev pub TextsBeginSo : Type 0
TextsBeginSo = (reporting : Reporting) (end n : ℕ) (c d : Config) (body text : List ℕ) (totals : Totals) → Leads reporting end n c body d → IsRunTextFrom reporting end c text totals
    → (rest : List ℕ) × (text ≡ body ++ rest)

-- the texts of a run, by what was said of its turns so far: each begins so, and where the run stops there it is that and what stands last
pub record IsTold (IsText : List ℕ → Totals → Type 0) (first body tail : List ℕ) (totals : Totals) (goes_on : Bool) : Type 0 where
  pub whole : goes_on ≡ true → IsText (first ++ (body ++ tail)) totals
  pub front : (text : List ℕ) (t : Totals) → IsText text t → (rest : List ℕ) × (text ≡ (first ++ body) ++ rest)
  pub same : goes_on ≡ true → (text : List ℕ) (t : Totals) → IsText text t → text ≡ (first ++ body) ++ tail

abbrev pub RunsAreTold : Type 0
RunsAreTold = (reporting : Reporting) (said : Happening → List ℕ) (turn : SaysOf reporting said) (end : ℕ) (c last : Config) (xs : List Happening) (totals : Totals) (goes_on : Bool)
    → (goes_on ≡ true → turn_at end last ≡ Stop) → Goes end c xs last → totals ≡ last.totals
    → IsTold (IsRunText reporting end c) (start_reported reporting c.net) (flat_map said xs) (end_reported reporting end last.net) totals goes_on

-- ---- ports

-- what came onto the wire by an event is told by what was on it before
abbrev pub PortsAreThoseBefore : Type 0
PortsAreThoseBefore = (at : ℕ) (edid : Option Edid) (e : TimedEvent) (s t : NetState) (before after : List Node) (was : List Bool) → t ≡ net_after at e.event s → before ≡ s.tree → after ≡ t.tree
    → ((k : ℕ) → k < length before → slice_index_or was k false ≡ is_on_wire before k)
    → port_lines at edid (λ device. slice_index_or was device false) after ≡ port_lines at edid (is_on_wire s.tree) (net_after at e.event s).tree
