-- A run taken step by step, and what each step writes (own).
use Rattle.std.specs.Prelude.{◌≡◌, ℕ, zero, suc, ◌+◌, ◌<◌, ◌⊎◌, Bool, true, false, List, [], ◌∷◌, ◌++◌, length, take, slice_get, Option, Some, None, MatchOption, Result, Ok, Err}
use Rattle.std.specs.Io.KnownBytes.{Appends}
use Rattle.line_wave.specs.Line.{IsWave}
use Rattle.line_wave.specs.declared.Edge.{Edge}
use Rattle.line_rounds.specs.declared.Outcome.{Outcome}
use Rattle.line_rounds.specs.Edges.{IsNextEdge}
use Rattle.device_core.specs.State.{State}
use Rattle.room_net.specs.State.{NetState}
use Rattle.room_net.specs.Apply.{net_after}
use Rattle.room_net.specs.Step.{IsNextRound}
use Rattle.room_net.specs.Underway.{OfRound, standing_reported}
use Rattle.room_script.specs.declared.script.TimedEvent.{TimedEvent}
use Rattle.room_script.specs.Script.{Course}
use Rattle.edid_core.specs.declared.edid.Edid.{Edid}
use Rattle.record_core.specs.declared.cell.Form.{Form}
use Rattle.record_core.specs.declared.cell.Form.TheVariants.{Text, Json}
use Rattle.text_core.specs.Cut.{reported_count}
use Rattle.room_run.specs.declared.run.Turn.{Turn}
use Rattle.room_run.specs.declared.run.Turn.TheVariants.{Stop, Apply, Round}
use Rattle.room_run.specs.declared.run.Reporting.{Reporting}
use Rattle.room_run.specs.declared.run.Reporting.TheVariants.{Trace, Objects}
use Rattle.room_run.specs.Happening.{Happening, OfEvent, OfRound as RoundOf}
use Rattle.room_run.specs.Run.{turn_of, first_time, event_reported, round_reported}
use Rattle.room_trace.specs.PortText.{port_texts}
use Rattle.room_trace.specs.Records.{state_text}
use Rattle.room_step_text.specs.declared.break_at.Break.{Break}
use Rattle.room_steps.specs.declared.stepper.StepError.{StepError}
use Rattle.room_steps.specs.declared.stepper.StepError.TheVariants.{Ended, Write}
use Rattle.room_step_text.specs.EdgeText.{edge_text}
use Rattle.room_step_text.specs.Stops.{stops}

-- ---- where a run stands

-- the network, the events that are left, and whether no round was run yet
pub record Point : Type 0 where
  pub net : NetState
  pub events : List TimedEvent
  pub is_first : Bool

-- what comes next
abbrev pub turn_at : ℕ → Point → Turn
turn_at end p = turn_of end p.net (first_time p.events)

-- what a run is made of: the form of its lines, the television's EDID, its events, and its end
pub record Run : Type 0 where
  pub form : Form
  pub edid : Option Edid
  pub events : List TimedEvent
  pub end : ℕ

-- what a run reports: its trace, or the objects of it
abbrev pub reporting_by : Form → Option Edid → Reporting
reporting_by Text edid = Trace edid
reporting_by Json edid = Objects edid None

abbrev pub reporting_of : Run → Reporting
reporting_of run = reporting_by run.form run.edid

-- and what of a turn
abbrev pub told_of : Reporting → Happening → List ℕ
told_of reporting (OfEvent at e before) = event_reported reporting at e before
told_of reporting (RoundOf begin before o) = round_reported reporting before.devices o

-- ---- the events before a round

abbrev pub passed_by : Turn → Point → (ℕ → Point) → Point
passed_by (Apply at) here on = on at
passed_by Stop here on = here
passed_by (Round begin) here on = here

-- the run after the events that come before the next round, or before the stop
unfoldable pub passed_from : ℕ → NetState → List TimedEvent → Bool → Point
passed_from end s [] first = record { net = s; events = []; is_first = first }
passed_from end s (e ∷ events) first =
    passed_by (turn_of end s (Some e.at)) (record { net = s; events = e ∷ events; is_first = first }) (λ at. passed_from end (net_after at e.event s) events first)

abbrev pub after_events : ℕ → Point → Point
after_events end p = passed_from end p.net p.events p.is_first

abbrev pub text_by : Turn → (ℕ → List ℕ) → List ℕ
text_by (Apply at) reported = reported at
text_by Stop reported = []
text_by (Round begin) reported = []

-- their lines
unfoldable pub passed_text_from : Reporting → ℕ → NetState → List TimedEvent → List ℕ
passed_text_from reporting end s [] = []
passed_text_from reporting end s (e ∷ events) =
    text_by (turn_of end s (Some e.at)) (λ at. event_reported reporting at e s ++ passed_text_from reporting end (net_after at e.event s) events)

abbrev pub passed_text : Reporting → ℕ → Point → List ℕ
passed_text reporting end p = passed_text_from reporting end p.net p.events

-- ---- a round

-- before the first round of all, the lines of the ports
abbrev pub start_by : Bool → Form → Option Edid → NetState → List ℕ
start_by true form edid s = port_texts form 0 edid (λ device. false) s.tree
start_by false form edid s = []

abbrev pub start_text : Run → Point → List ℕ
start_text run p = start_by p.is_first run.form run.edid p.net

-- The next round with the events before it gives this outcome, and leads from one point to another.
pub record IsRoundStep (end : ℕ) (p : Point) (o : Outcome) (q : Point) : Type 0 where
  pub begin : ℕ
  pub turn : turn_at end (after_events end p) ≡ Round begin
  pub wave : IsWave o.wave
  pub next : IsNextRound (after_events end p).net begin o q.net
  pub left : q.events ≡ (after_events end p).events
  pub later : q.is_first ≡ false

-- what the trace has of it, after the line of the round before
abbrev pub step_text : Run → Point → Outcome → Point → List ℕ
step_text run p o q = (start_text run p ++ passed_text (reporting_of run) run.end p) ++ round_reported (reporting_of run) q.net.devices o

-- no round comes any more
abbrev pub IsOver : ℕ → Point → Type 0
IsOver end p = turn_at end (after_events end p) ≡ Stop

-- what comes after the events before it: a round that begins then, or nothing more
abbrev pub ComesTo : ℕ → Point → Option ℕ → Type 0
ComesTo end p comes = MatchOption comes (IsOver end p) (λ begin. turn_at end (after_events end p) ≡ Round begin)

-- ---- a stepper

-- where a stepper stands: after the last round that was finished, or at the start; and in the round that was begun, if one
-- was, the network with the events before that round
pub record Steps : Type 0 where
  pub run : Run
  pub last : Point
  pub begun : Option NetState

abbrev pub net_by : Option NetState → NetState → NetState
net_by None last = last
net_by (Some net) last = net

-- the network that it shows
abbrev pub shown_net : Steps → NetState
shown_net s = net_by s.begun s.last.net

-- how many devices there are; no step changes that
abbrev pub device_count : Steps → ℕ
device_count s = length s.last.net.tree

-- What a step does: which text it gives and where the stepper then stands (`Gives`), or that there is no such step
-- (`Over`). A step counts once its text was written; else the stepper stands where it stood, and of the text as much was
-- written as is told.
abbrev pub IsTaken : (List ℕ → Steps → Type 0) → Type 0 → Steps → Steps → Option (List ℕ) → Option (List ℕ) → Result ℕ StepError → Type 0
IsTaken Gives Over s t old new (Ok reported) = (text : List ℕ) × Gives text t × (reported ≡ reported_count (length text)) × Appends old new text
IsTaken Gives Over s t old new (Err Ended) = Over × (t ≡ s) × (new ≡ old)
IsTaken Gives Over s t old new (Err (Write reported)) =
    (t ≡ s) × (text : List ℕ) × (after : Steps) × Gives text after × (count : ℕ) × (count < length text) × (reported ≡ reported_count count) × Appends old new (take count text)

abbrev pub is_write : Result ℕ StepError → Bool
is_write (Ok reported) = false
is_write (Err Ended) = false
is_write (Err (Write reported)) = true

-- a stepper at the start of a run
abbrev pub begun_at : Form → Option Edid → Course → NetState → Steps
begun_at form edid course s = record {
  run = record { form = form; edid = edid; events = course.events; end = course.end };
  last = record { net = s; events = course.events; is_first = true };
  begun = None;
}

-- ---- `round`

-- It stands after that round.
abbrev pub after_round : Steps → Point → Steps
after_round s p = record s { last = p; begun = None }

-- the round that was begun, or else the next one, is finished
abbrev pub IsRound : Steps → List ℕ → Steps → Type 0
IsRound s text t = (o : Outcome) × (q : Point) × IsRoundStep s.run.end s.last o q × (text ≡ step_text s.run s.last o q) × (t ≡ after_round s q)

-- ---- `until`

-- so many rounds, none of which stops the search
abbrev pub Skips : ℕ → Break → ℕ → Point → Point → Type 0
Skips end at zero p q = q ≡ p
Skips end at (suc rounds) p q = (mid : Point) × (o : Outcome) × Skips end at rounds p mid × IsRoundStep end mid o q × (stops at o ≡ false)

-- the first round, of the one that was begun or else of the next one on, that stops the search; its text alone is given
pub record IsUntil (s : Steps) (at : Break) (text : List ℕ) (t : Steps) : Type 0 where
  pub rounds : ℕ
  pub before : Point
  pub after : Point
  pub outcome : Outcome
  pub skips : Skips s.run.end at rounds s.last before
  pub step : IsRoundStep s.run.end before outcome after
  pub stop : stops at outcome ≡ true
  pub reported : text ≡ step_text s.run before outcome after
  pub stands : t ≡ after_round s after

-- the run ends before such a round
abbrev pub IsNever : Steps → Break → Type 0
IsNever s at = (rounds : ℕ) × (q : Point) × Skips s.run.end at rounds s.last q × IsOver s.run.end q

-- ---- `edge`

-- The next edge of the line of a round, told through it; and its text, by where each receiver then stands. Said of each
-- line that the round can have, of which there is one.
pub record IsEdge (form : Form) (net : NetState) (text : List ℕ) (after : NetState) : Type 0 where
  pub edge : Edge
  pub next : OfRound net (λ begin heard low. IsNextEdge low heard (Some edge))
  pub reported : after ≡ record net { heard = Some (edge.at + 1) }
  pub line : OfRound after (λ begin heard low. text ≡ edge_text form after.devices edge (standing_reported low begin heard))

-- the line of a round has no edge left
abbrev pub IsSilent : NetState → Type 0
IsSilent net = OfRound net (λ begin heard low. IsNextEdge low heard None)

-- the first edge of the next round
pub record IsFirstEdge (form : Form) (end : ℕ) (p : Point) (text : List ℕ) (after : NetState) : Type 0 where
  pub begin : ℕ
  pub turn : turn_at end (after_events end p) ≡ Round begin
  pub edge : IsEdge form (record (after_events end p).net { heard = Some begin }) text after

abbrev pub in_round : Steps → Point → NetState → Steps
in_round s p net = record s { last = p; begun = Some net }

abbrev pub IsFirstStep : Steps → Point → List ℕ → Steps → Type 0
IsFirstStep s p text t = (after : NetState) × IsFirstEdge s.run.form s.run.end p text after × (t ≡ in_round s p after)

-- where the round that was begun has no edge left, the first edge of the round after it
pub record IsEdgeAfter (s : Steps) (net : NetState) (text : List ℕ) (t : Steps) : Type 0 where
  pub silent : IsSilent net
  pub outcome : Outcome
  pub last : Point
  pub step : IsRoundStep s.run.end s.last outcome last
  pub first : IsFirstStep s last text t

abbrev pub IsEdgeStepBy : Steps → Option NetState → List ℕ → Steps → Type 0
IsEdgeStepBy s None text t = IsFirstStep s s.last text t
IsEdgeStepBy s (Some net) text t = ((after : NetState) × IsEdge s.run.form net text after × (t ≡ in_round s s.last after)) ⊎ IsEdgeAfter s net text t

abbrev pub IsEdgeStep : Steps → List ℕ → Steps → Type 0
IsEdgeStep s text t = IsEdgeStepBy s s.begun text t

-- there is no edge any more: no next round
abbrev pub IsNoEdgeBy : Steps → Option NetState → Type 0
IsNoEdgeBy s None = IsOver s.run.end s.last
IsNoEdgeBy s (Some net) = IsSilent net × (o : Outcome) × (q : Point) × IsRoundStep s.run.end s.last o q × IsOver s.run.end q

abbrev pub IsNoEdge : Steps → Type 0
IsNoEdge s = IsNoEdgeBy s s.begun

-- ---- `show`

-- the state line of the device of this number, or its object; the stepper stands where it stood
abbrev pub IsShown : Steps → ℕ → List ℕ → Steps → Type 0
IsShown s device text t = (shown : State) × (slice_get (shown_net s).devices device ≡ Some shown) × (text ≡ state_text s.run.form shown) × (t ≡ s)
