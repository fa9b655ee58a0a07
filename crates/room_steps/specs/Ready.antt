-- What a position of the code says, and what holds wherever a run stands (own).
use Rattle.std.specs.Prelude.{◌≡◌, ℕ, ◌+◌, ◌≤◌, ◌<◌, List, drop, [], ◌∷◌, length, Option, Some, None, IsSome, IfSome, Bool, true, false}
use Rattle.room_script.specs.declared.script.TimedEvent.{TimedEvent}
use Rattle.room_script.specs.Script.{IsSchedule}
use Rattle.room_net.specs.State.{NetState}
use Rattle.line_wave.specs.Line.{IsWave}
use Rattle.line_wave.specs.declared.Edge.{Edge}
use Rattle.line_wave.specs.Bounds.{latest_event, latest_instant}
use Rattle.line_rounds.specs.Edges.{IsNextEdge}
use Rattle.room_net.specs.Underway.{OfRound}
use Rattle.room_net.specs.Apply.{net_after}
use Rattle.room_run.specs.Run.{turn_of}
use Rattle.room_run.specs.Happening.{Happening, OfEvent}
use Rattle.room_run.specs.declared.run.Turn.{Turn}
use Rattle.room_run.specs.declared.run.Turn.TheVariants.{Stop, Apply, Round}
use Rattle.room_steps.specs.declared.position.Ahead.{Ahead}
use Rattle.room_steps.specs.declared.position.Position.{Position}
use Rattle.room_steps.specs.declared.position.RunInput.{RunInput}
use Rattle.line_rounds.specs.declared.Outcome.{Outcome}
use Rattle.room_step_text.specs.declared.break_at.Break.{Break}
use Rattle.room_step_text.specs.Stops.{stops}
use Rattle.room_steps.specs.Steps.{Point, Run, Steps, IsRoundStep, Skips, turn_at, after_events}

-- where a position stands in a run with these events
abbrev pub point_of : List TimedEvent → Position → Point
point_of events p = record { net = p.net.value; events = drop p.applied events; is_first = p.is_first }

-- two positions that stand where one does: their networks are in two places
pub record AreAlike (p q : Position) : Type 0 where
  pub net : p.net.value ≡ q.net.value
  pub applied : p.applied ≡ q.applied
  pub first : p.is_first ≡ q.is_first

-- what a run in the code is made of
abbrev pub run_of : RunInput → Run
run_of input = record { form = input.form; edid = input.edid.value; events = input.events.items; end = input.end }

-- times stay below the limits, a room has at most fifteen devices, and the events that are left come in their order, before the end
pub record IsReady (end : ℕ) (p : Point) : Type 0 where
  pub some : 0 < length p.net.tree
  pub few : length p.net.devices ≤ 15
  pub early : end ≤ latest_event
  pub order : IsWave p.net.pulses
  pub closed : p.net.close ≤ latest_instant
  pub schedule : (from : ℕ) × IsSchedule (length p.net.tree) end from p.events

-- a position in the round that comes next, whose line was reported before an instant
pub record IsInside (end : ℕ) (p q : Point) : Type 0 where
  pub begin : ℕ
  pub heard : ℕ
  pub turn : turn_at end (after_events end p) ≡ Round begin
  pub reported : q ≡ record (after_events end p) { net = record (after_events end p).net { heard = Some heard } }

abbrev pub InsideIf : Bool → ℕ → Point → Point → Type 0
InsideIf false end p q = Unit {0}
InsideIf true end p q = IsInside end p q

-- a network as far as it was written, of which more was heard
abbrev pub written_of : Option Ahead → NetState → NetState
written_of None s = s
written_of (Some a) s = record s { heard = Some a.written }

abbrev pub written_in : Option Ahead → Point → Point
written_in ahead q = record q { net = written_of ahead q.net }

-- a network that was heard to the next edge after what was written of it, or to the end of its round
pub record IsAhead (s : NetState) (a : Ahead) : Type 0 where
  pub underway : IsSome s.heard
  pub next : OfRound (record s { heard = Some a.written }) (λ begin heard low. IsNextEdge low heard a.edge)
  pub reported : IfSome a.edge (λ e. s.heard ≡ Some (e.at + 1))

abbrev pub AheadIf : Option Ahead → NetState → Type 0
AheadIf None s = Unit {0}
AheadIf (Some a) s = IsAhead s a

abbrev pub begun_in : Bool → Point → Option NetState
begun_in false q = None
begun_in true q = Some q.net

-- an event that comes at an instant leads from one position to another
pub record Passes (at : ℕ) (events : List TimedEvent) (p q : Position) : Type 0 where
  pub event : TimedEvent
  pub split : drop p.applied events ≡ event ∷ drop q.applied events
  pub step : q.net.value ≡ net_after at event.event p.net.value
  pub first : q.is_first ≡ p.is_first

-- the first of these events is heard of
abbrev pub HearsFirst : {R : Type 0} → (R → Happening → R → Type 0) → ℕ → NetState → List TimedEvent → R → R → Type 0
HearsFirst hears at s [] old new = Unit {0}
HearsFirst hears at s (event ∷ events) old new = hears old (OfEvent at event s) new

-- ---- the events before a round, each with the network before it

abbrev pub happened_by : Turn → (ℕ → List Happening) → List Happening
happened_by (Apply at) on = on at
happened_by Stop on = []
happened_by (Round begin) on = []

unfoldable pub happened_from : ℕ → NetState → List TimedEvent → List Happening
happened_from end s [] = []
happened_from end s (e ∷ events) = happened_by (turn_of end s (Some e.at)) (λ at. OfEvent at e s ∷ happened_from end (net_after at e.event s) events)

abbrev pub happened : ℕ → Point → List Happening
happened end p = happened_from end p.net p.events

-- a round brings the rest on
pub record Brings (end : ℕ) (p q : Point) : Type 0 where
  pub before : p.net.rest < end
  pub later : p.net.rest < q.net.rest

-- the next round was begun, and this is the first edge of its line
pub record Begins (end : ℕ) (p : Point) (edge : Edge) (q : Point) : Type 0 where
  pub begin : ℕ
  pub turn : turn_at end (after_events end p) ≡ Round begin
  pub first : OfRound (record (after_events end p).net { heard = Some begin }) (λ begin heard low. IsNextEdge low heard (Some edge))
  pub reported : q ≡ record (after_events end p) { net = record (after_events end p).net { heard = Some (edge.at + 1) } }

-- the round that a search found: its outcome, and the positions before and after it
pub record IsFound (s : Steps) (at : Break) (before : Position) (outcome : Outcome) (after : Position) : Type 0 where
  pub rounds : ℕ
  pub skips : Skips s.run.end at rounds s.last (point_of s.run.events before)
  pub step : IsRoundStep s.run.end (point_of s.run.events before) outcome (point_of s.run.events after)
  pub stop : stops at outcome ≡ true
  pub before_is : IsReady s.run.end (point_of s.run.events before)
  pub after_is : IsReady s.run.end (point_of s.run.events after)
