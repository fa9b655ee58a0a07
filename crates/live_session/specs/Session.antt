-- A session: a run whose script comes line by line, what each line does, and what is due after it (this profile's own).
use Rattle.std.specs.Prelude.{◌≡◌, ℕ, ◌+◌, ◌<◌, ◌≤◌, min, max, ◌||◌, Bool, true, false, nat_lt, if◌then◌else◌, codes, List, [], ◌∷◌, ◌++◌, length, drop, slice_get, Option, Some, None, is_some, Result, Ok, Err}
use Rattle.std.specs.List.{list_any}
use Rattle.std.specs.Fmt.{decimal}
use Rattle.line_wave.specs.declared.Stretch.{Stretch}
use Rattle.line_wave.specs.Line.{IsWave}
use Rattle.line_wave.specs.Bounds.{latest_event}
use Rattle.line_rounds.specs.declared.Outcome.{Outcome}
use Rattle.edid_tree.specs.Node.{Node}
use Rattle.device_core.specs.State.{State}
use Rattle.room_net.specs.State.{NetState, first_net}
use Rattle.room_net.specs.Step.{IsNextRound}
use Rattle.room_net.specs.Added.{pulse_fault}
use Rattle.room_script.specs.Script.{Notes, no_notes, script_cause, IsLineRead}
use Rattle.room_script.specs.Lines.{AreSound}
use Rattle.room_script.specs.declared.script.TimedEvent.{TimedEvent}
use Rattle.text_core.specs.declared.at.AtWord.{AtWord}
use Rattle.room_script.specs.declared.script.ScriptCause.{ScriptCause}
use Rattle.room_script.specs.declared.script.ScriptCause.TheVariants.{Number, Name}
use Rattle.record_core.specs.Cells.{PlainCell, both, hidden, line_only}
use Rattle.record_core.specs.Values.{nothing, number, switch, text as word}
use Rattle.record_core.specs.declared.cell.Form.{Form}
use Rattle.room_trace.specs.Records.{by_form, state_cells}
use Rattle.room_trace.specs.StateText.{state_line}
use Rattle.room_run.specs.declared.run.Reporting.{Reporting}
use Rattle.room_run.specs.declared.run.Turn.{Turn}
use Rattle.room_run.specs.declared.run.Turn.TheVariants.{Stop, Apply, Round}
use Rattle.room_run.specs.Run.{Config, start, turn_at, end_reported}
use Rattle.room_run.specs.Certain.{with_pulses}
use Rattle.live_session.specs.declared.command.SessionCommand.{SessionCommand}
use Rattle.live_session.specs.declared.command.SessionCommand.TheVariants as commands
use Rattle.live_session.specs.declared.answer.Refusal.{Refusal}
use Rattle.live_session.specs.declared.answer.RefusalCause.{RefusalCause}
use Rattle.live_session.specs.declared.answer.RefusalCause.TheVariants.{Script, Past}
use Rattle.live_session.specs.declared.live.Step.{Step}
use Rattle.live_session.specs.declared.live.Step.TheVariants.{Refuse, Idle, Show, Go, Edge, Finish}
use Rattle.live_session.specs.Command.{command_of, pin_time}
use Rattle.live_session.specs.declared.edges.InstantRange.{InstantRange}
use Rattle.live_session.specs.Edges.{first_edge, pinned_by}
use Rattle.live_session.specs.Turns.{GoesWith, IsWithin, certain_until, form_of}

-- ---- a session

-- what it reports, which has the television's EDID, the devices by their names, what the lines that were taken say, the instant before which all was told
-- and from which on more may come, how many lines came, where the run stands, whether edges are reported, that instant as it
-- was before the last line, and whether notes are
pub record Session : Type 0 where
  pub reporting : Reporting
  pub tree : List Node
  pub notes : Notes
  pub horizon : ℕ
  pub lines : ℕ
  pub place : Config
  pub edges : Bool
  pub since : ℕ
  pub seats : Bool

-- before its first line
abbrev pub first_session : Reporting → List Node → Session
first_session reporting tree = record { reporting = reporting; tree = tree; notes = no_notes; horizon = 0; lines = 0; place = start (first_net tree []) []; edges = false; since = 0; seats = false }

-- a line has come; the count stays at its greatest value, and what the line reports of edges begins at the horizon
abbrev pub with_line_counted : Session → Session
with_line_counted s = record s { lines = min (s.lines + 1) 18446744073709551615; since = s.horizon }

-- ---- a line of the script

-- what it says after what was said
abbrev pub new_events : Notes → Notes → List TimedEvent
new_events old new = drop (length old.events) new.events

abbrev pub new_pulses : Notes → Notes → List Stretch
new_pulses old new = drop (length old.pulses) new.pulses

-- it lets the pin go, which is low, before an instant
abbrev pub rises_before : ℕ → Option ℕ → List Stretch → Bool
rises_before horizon None pulses = false
rises_before horizon (Some low) pulses = list_any (λ p. nat_lt p.to horizon) pulses

-- an instant that it gives, of the pin's fall or of the script's end, lies before another
abbrev pub is_given_before : ℕ → Option ℕ → Bool
is_given_before horizon None = false
is_given_before horizon (Some time) = nat_lt time horizon

-- It is for an instant before the horizon. What begins, begins when it is still open; the pull that lets the pin go began before. A
-- line of the pin gives its instant where it changes nothing, too.
abbrev pub is_past : ℕ → Option ℕ → Notes → Notes → Bool
is_past horizon given old new =
    is_given_before horizon given
    || (list_any (λ e. nat_lt e.at horizon) (new_events old new)
    || (list_any (λ p. nat_lt p.from (certain_until old.pin horizon)) (new_pulses old new)
    || (rises_before horizon old.pin (new_pulses old new) || (is_given_before (certain_until old.pin horizon) new.pin || is_given_before horizon new.end))))

-- what a line of the script can change: what the lines say, the horizon, and the pulses that the network knows
pub record Standing : Type 0 where
  pub notes : Notes
  pub horizon : ℕ
  pub net : NetState

-- the network can't be told of its pulse
abbrev pub refuses_pulse : List Stretch → NetState → Bool
refuses_pulse [] net = false
refuses_pulse (pulse ∷ pulses) net = is_some (pulse_fault net pulse)

abbrev pub is_late : Standing → Option ℕ → Notes → Bool
is_late s given new = is_past s.horizon given s.notes new || refuses_pulse (new_pulses s.notes new) s.net

-- the end is the last horizon
abbrev pub horizon_by : ℕ → Option ℕ → ℕ
horizon_by horizon None = horizon
horizon_by horizon (Some end) = end

abbrev pub step_by : Option ℕ → Step
step_by None = Go
step_by (Some end) = Finish

-- it is refused for a cause, with this word at fault: its number from 0, or where one is missing the number that it would have
abbrev pub refuse : ℕ → RefusalCause → Step
refuse word cause = Refuse (record { cause = cause; word = word })

-- what the line asks for, by the instant that it gives the pin: it is refused for its own cause, or else because it is too late, with
-- its time at fault, or else taken
abbrev pub step_noted : Standing → Option ℕ → Result Notes (AtWord ScriptCause) → Step
step_noted s given (Err fault) = refuse fault.word (Script fault.cause)
step_noted s given (Ok new) = if is_late s given new then refuse 1 Past else step_by new.end

-- and what it changes; a refusal changes nothing
abbrev pub standing_with : Standing → Option ℕ → Result Notes (AtWord ScriptCause) → Standing
standing_with s given (Err fault) = s
standing_with s given (Ok new) =
    if is_late s given new then s else record { notes = new; horizon = horizon_by s.horizon new.end; net = with_pulses (new_pulses s.notes new) s.net }

abbrev pub standing : Session → Standing
standing s = record { notes = s.notes; horizon = s.horizon; net = s.place.net }

-- the session with what was noted
abbrev pub with_standing : Session → Standing → Session
with_standing s t = record s {
  notes = t.notes;
  horizon = t.horizon;
  place = record { net = t.net; events = s.place.events ++ new_events s.notes t.notes; totals = s.place.totals };
}

-- ---- `run to T`

abbrev pub step_to : Session → Option ℕ → Step
step_to s None = refuse 2 (Script Number)
step_to s (Some time) = if nat_lt time s.horizon then refuse 2 Past else Go

abbrev pub after_to : Session → Option ℕ → Session
after_to s None = s
after_to s (Some time) = if nat_lt time s.horizon then s else record s { horizon = time }

-- ---- `wait`

-- an instant that is not after another
abbrev pub at_most : ℕ → ℕ → Option ℕ
at_most limit time = if nat_lt limit time then None else Some time

-- The least horizon at which one more turn is reported, if nothing else comes: one microsecond after an event is applied or a round
-- closes. There is none where nothing comes by a limit: 1,000,000,000,000, or the instant from which on the pin is low.
abbrev pub IsSoonestBy : ℕ → NetState → Turn → Option ℕ → Type 0
IsSoonestBy limit net Stop soon = soon ≡ None
IsSoonestBy limit net (Apply at) soon = soon ≡ Some (at + 1)
IsSoonestBy limit net (Round begin) soon =
    (outcome : Outcome) × (after : NetState) × IsWave outcome.wave × IsNextRound net begin outcome after × (soon ≡ at_most limit (after.close + 1))

abbrev pub IsSoonest : ℕ → Config → Option ℕ → Type 0
IsSoonest limit c soon = IsSoonestBy limit c.net (turn_at limit c) soon

abbrev pub step_wait : Option ℕ → Step
step_wait None = Idle
step_wait (Some time) = Go

abbrev pub after_wait : Session → Option ℕ → Session
after_wait s None = s
after_wait s (Some time) = record s { horizon = max s.horizon time }

-- ---- `wait T`

-- where one more turn is over, and an instant where none is by then
abbrev pub horizon_waited : ℕ → ℕ → Option ℕ → ℕ
horizon_waited horizon until None = until
horizon_waited horizon until (Some time) = max horizon time

abbrev pub IsWaitStepBy : Bool → Session → ℕ → Step → Session → Type 0
IsWaitStepBy true s until step t = (step ≡ refuse 1 Past) × (t ≡ s)
IsWaitStepBy false s until step t = (step ≡ Go) × (soon : Option ℕ) × IsSoonest (certain_until s.notes.pin until) s.place soon × (t ≡ record s { horizon = horizon_waited s.horizon until soon })

-- as `wait`, at most to an instant
abbrev pub IsWaitStep : Session → Option ℕ → Step → Session → Type 0
IsWaitStep s None step t = (step ≡ refuse 1 (Script Number)) × (t ≡ s)
IsWaitStep s (Some until) step t = IsWaitStepBy (nat_lt until s.horizon) s until step t

-- ---- `edge T`

-- the microsecond after the next edge of the line, or after what comes before that is over, an event that is applied or a round that
-- closes; at most an instant, if nothing else comes
abbrev pub edge_horizon : ℕ → ℕ → Option ℕ → ℕ
edge_horizon until close None = min until (close + 1)
edge_horizon until close (Some edge) = min until (edge + 1)

-- where no round is on there is the pin's edge alone
abbrev pub to_edge : ℕ → Option ℕ → ℕ
to_edge until None = until
to_edge until (Some edge) = min until (edge + 1)

-- the pin as a round has it that closes then: not where it goes low later
abbrev pub pin_by : Option ℕ → ℕ → Option ℕ
pin_by None close = None
pin_by (Some low) close = if nat_lt close low then None else Some low

abbrev pub IsEdgeBy : Option ℕ → ℕ → ℕ → NetState → Turn → ℕ → Type 0
IsEdgeBy pin from until net Stop to = to ≡ to_edge until (first_edge from (pinned_by pin []))
IsEdgeBy pin from until net (Apply at) to = to ≡ at + 1
IsEdgeBy pin from until net (Round begin) to =
    (outcome : Outcome) × (after : NetState) × IsWave outcome.wave × IsNextRound net begin outcome after
    × (to ≡ edge_horizon until after.close (first_edge from (pinned_by (pin_by pin after.close) outcome.wave)))

abbrev pub IsEdge : Option ℕ → ℕ → ℕ → Config → ℕ → Type 0
IsEdge pin from until c to = IsEdgeBy pin from until c.net (turn_at (certain_until pin until) c) to

abbrev pub IsEdgeStepBy : Bool → Session → ℕ → Step → Session → Type 0
IsEdgeStepBy true s until step t = (step ≡ refuse 1 Past) × (t ≡ s)
IsEdgeStepBy false s until step t = (step ≡ Edge) × (to : ℕ) × IsEdge s.notes.pin s.horizon until s.place to × (t ≡ record s { horizon = max s.horizon to })

abbrev pub IsEdgeStep : Session → Option ℕ → Step → Session → Type 0
IsEdgeStep s None step t = (step ≡ refuse 1 (Script Number)) × (t ≡ s)
IsEdgeStep s (Some until) step t = IsEdgeStepBy (nat_lt until s.horizon) s until step t

-- ---- `show NAME`

abbrev pub step_show : Option ℕ → Step
step_show None = refuse 1 (Script Name)
step_show (Some device) = Show device

-- ---- what a line asks for

abbrev pub IsStepBy : Session → SessionCommand → List ℕ → Step → Session → Type 0
IsStepBy s commands.Script line step t =
    (read : Result Notes (AtWord ScriptCause)) × IsLineRead s.tree s.notes (length s.place.net.pulses) s.lines line read × (step ≡ step_noted (standing s) (pin_time line) read) × (t ≡ with_standing s (standing_with (standing s) (pin_time line) read))
IsStepBy s commands.Wait line step t = (soon : Option ℕ) × IsSoonest (certain_until s.notes.pin latest_event) s.place soon × (step ≡ step_wait soon) × (t ≡ after_wait s soon)
IsStepBy s (commands.WaitUntil time) line step t = IsWaitStep s time step t
IsStepBy s (commands.RunTo time) line step t = (step ≡ step_to s time) × (t ≡ after_to s time)
IsStepBy s (commands.Show device) line step t = (step ≡ step_show device) × (t ≡ s)
IsStepBy s (commands.Edge time) line step t = IsEdgeStep s time step t
IsStepBy s (commands.Edges edges) line step t = (step ≡ Go) × (t ≡ record s { edges = edges })
IsStepBy s (commands.Seats seats) line step t = (step ≡ Go) × (t ≡ record s { seats = seats })

-- each line counts, and asks for a step
abbrev pub IsStep : Session → List ℕ → Step → Session → Type 0
IsStep s line step t = IsStepBy (with_line_counted s) (command_of s.tree line) line step t

-- ---- what is due

abbrev pub refusal_cause : RefusalCause → List ℕ
refusal_cause Past = codes "past"
refusal_cause (Script cause) = script_cause cause

-- the line of answer
abbrev pub taken_line : ℕ → List ℕ
taken_line horizon = codes "= " ++ (decimal horizon ++ codes "\n")

abbrev pub idle_line : ℕ → List ℕ
idle_line horizon = codes "= " ++ (decimal horizon ++ codes " idle\n")

abbrev pub refused_line : ℕ → Refusal → List ℕ
refused_line line refusal = codes "! " ++ (decimal line ++ (codes " " ++ (refusal_cause refusal.cause ++ codes "\n")))

-- the same as records: an object also says whether nothing comes any more
abbrev pub taken_cells : ℕ → List PlainCell
taken_cells horizon = both (codes "= ") (codes "at") (number horizon) ∷ hidden (codes "idle") (switch false) ∷ []

abbrev pub idle_cells : ℕ → List PlainCell
idle_cells horizon = both (codes "= ") (codes "at") (number horizon) ∷ line_only (codes " idle") nothing ∷ hidden (codes "idle") (switch true) ∷ []

abbrev pub refused_cells : ℕ → Refusal → List PlainCell
refused_cells line refusal = both (codes "! ") (codes "script_line") (number line) ∷ both (codes " ") (codes "cause") (word (refusal_cause refusal.cause)) ∷ []

-- a device's state after the mark of an answer
abbrev pub shown_cells : State → List PlainCell
shown_cells device = line_only (codes "= ") nothing ∷ state_cells device

-- as a line, or as an object
abbrev pub taken_text : Form → ℕ → List ℕ
taken_text form horizon = by_form form (taken_line horizon) (codes "horizon") (taken_cells horizon)

abbrev pub idle_text : Form → ℕ → List ℕ
idle_text form horizon = by_form form (idle_line horizon) (codes "horizon") (idle_cells horizon)

abbrev pub refused_text : Form → ℕ → Refusal → List ℕ
refused_text form line refusal = by_form form (refused_line line refusal) (codes "refusal") (refused_cells line refusal)

abbrev pub shown_text : Form → State → List ℕ
shown_text form device = by_form form (codes "= " ++ state_line device) (codes "state") (shown_cells device)

-- the instants whose edges are reported where a session goes on: none, those from the horizon before the line on to the horizon, or
-- all that are left
abbrev pub span_of : Bool → Bool → Session → InstantRange
span_of false ended s = record { from = 0; until = 0 }
span_of true false s = record { from = s.since; until = s.horizon }
span_of true true s = record { from = s.since; until = 18446744073709551615 }

-- a session goes on: what it reports in the trace, that text with the edges, where edges are reported, and where its run then stands
abbrev pub SessionGoes : Bool → Bool → Session → List ℕ → List ℕ → Config → Type 0
SessionGoes edges ended s reported text place =
    GoesWith s.reporting ended s.seats s.notes.pin (span_of edges ended s) (certain_until s.notes.pin s.horizon) s.place reported text place

-- Of each step: the text that is due, and the session after it. It goes on where time has gone on: the turns that are certain, with
-- the edges that are, then the answer; at the end all that is left of the trace.
abbrev pub IsDue : Step → Session → List ℕ → Session → Type 0
IsDue (Refuse refusal) s text t = (text ≡ refused_text (form_of s.reporting) s.lines refusal) × (t ≡ s)
IsDue Idle s text t = (text ≡ idle_text (form_of s.reporting) s.horizon) × (t ≡ s)
IsDue (Show device) s text t = (shown : State) × (slice_get s.place.net.devices device ≡ Some shown) × (text ≡ shown_text (form_of s.reporting) shown) × (t ≡ s)
IsDue Go s text t =
    (reported : List ℕ) × (own : List ℕ) × (place : Config) × SessionGoes s.edges false s reported own place × (text ≡ own ++ taken_text (form_of s.reporting) s.horizon) × (t ≡ record s { place = place })
IsDue Edge s text t =
    (reported : List ℕ) × (own : List ℕ) × (place : Config) × SessionGoes true false s reported own place × (text ≡ own ++ taken_text (form_of s.reporting) s.horizon) × (t ≡ record s { place = place })
IsDue Finish s text t =
    (reported : List ℕ) × (own : List ℕ) × (place : Config) × SessionGoes s.edges true s reported own place
    × (text ≡ own ++ (end_reported s.reporting s.horizon place.net ++ taken_text (form_of s.reporting) s.horizon)) × (t ≡ record s { place = place })

-- a step of a session has one text that is due, and one session after it
abbrev pub StepsHaveOneText : Type 0
StepsHaveOneText = (step : Step) (s t u : Session) (text other : List ℕ) → IsDue step s text t → IsDue step s other u → (text ≡ other) × (t ≡ u)

-- ---- what holds of every session

pub record IsReady (s : Session) : Type 0 where
  pub fit : AreSound (length s.tree) s.notes
  pub matched : length s.place.net.tree ≡ length s.tree
  pub early : s.horizon ≤ latest_event
  pub within : IsWithin s.place
  pub refused : s.place.totals.refused + length s.place.events ≤ length s.notes.events

-- a device that is shown is one of so many
abbrev pub NamesShown : ℕ → Step → Type 0
NamesShown count (Show device) = device < count
NamesShown count (Refuse refusal) = Unit {0}
NamesShown count Idle = Unit {0}
NamesShown count Go = Unit {0}
NamesShown count Edge = Unit {0}
NamesShown count Finish = Unit {0}
