-- The edges that a session has told, and what is certain of them (this profile's own).
use Rattle.std.specs.Prelude.{◌≡◌, ℕ, zero, suc, ◌≤◌, Bool, true, false, List, [], ◌∷◌, ◌++◌, Some, None}
use Rattle.line_wave.specs.declared.Stretch.{Stretch}
use Rattle.line_wave.specs.Line.{IsWave}
use Rattle.line_wave.specs.Bounds.{latest_event}
use Rattle.edid_tree.specs.Node.{Node}
use Rattle.room_net.specs.State.{first_net}
use Rattle.room_script.specs.Script.{AreFramedEvents}
use Rattle.record_core.specs.declared.cell.Form.{Form}
use Rattle.room_script.specs.declared.script.TimedEvent.{TimedEvent}
use Rattle.capture_forms.specs.declared.form.CaptureForm.TheVariants.{Edges}
use Rattle.capture_monitor.specs.EdgeText.{edge_lines}
use Rattle.room_trace.specs.TraceText.{end_line}
use Rattle.room_run.specs.declared.run.Reporting.{Reporting}
use Rattle.room_run.specs.declared.run.Reporting.TheVariants.{Line}
use Rattle.room_run.specs.declared.run.Totals.{Totals}
use Rattle.room_run.specs.Run.{Config, start, IsRunText}
use Rattle.live_session.specs.declared.edges.InstantRange.{InstantRange}
use Rattle.live_session.specs.declared.live.Step.{Step}
use Rattle.live_session.specs.declared.live.Step.TheVariants.{Refuse, Idle, Show, Go, Edge, Finish}
use Rattle.live_session.specs.Edges.{edges_reported}
use Rattle.live_session.specs.Turns.{LeadsWith, MayCome, certain_until, form_of}
use Rattle.live_session.specs.Session.{Session, SessionGoes, first_session, span_of, IsDue}
use Rattle.live_session.specs.Whole.{IsLine, AreLines}

-- the edges that stand before the lines of turns, one after another
abbrev pub edges_in : (reporting : Reporting) (ended seats : Bool) (span : InstantRange) (until turns : ℕ) (c : Config) (reported text : List ℕ) (d : Config) → LeadsWith reporting ended seats span until turns c reported text d → List ℕ
edges_in reporting ended seats span until zero c reported text d l = []
edges_in reporting ended seats span until (suc turns) c reported text d l = l.2 ++ edges_in reporting ended seats span until turns l.0 l.3 l.4 d l.8

-- those of a session that goes on: of the turns that it reports, and then of the round that is on
abbrev pub edges_gone : (edges ended : Bool) (s : Session) (reported text : List ℕ) (place : Config) → SessionGoes edges ended s reported text place → List ℕ
edges_gone edges ended s reported text place goes =
    edges_in s.reporting ended s.seats (span_of edges ended s) (certain_until s.notes.pin s.horizon) goes.turns s.place reported goes.over place goes.leads ++ goes.on

-- of what is due of a step the edges alone
abbrev pub told_of : (step : Step) (s : Session) (text : List ℕ) (t : Session) → IsDue step s text t → List ℕ
told_of (Refuse refusal) s text t due = []
told_of Idle s text t due = []
told_of (Show device) s text t due = []
told_of Go s text t due = edges_gone s.edges false s due.0 due.1 due.2 due.3
told_of Edge s text t due = edges_gone true false s due.0 due.1 due.2 due.3
told_of Finish s text t due = edges_gone s.edges true s due.0 due.1 due.2 due.3

-- of lines, one after another
abbrev pub told_in : (lines : List (List ℕ)) (s : Session) (kept : List (List ℕ)) (reported text : List ℕ) (t : Session) → AreLines lines s kept reported text t → List ℕ
told_in [] s kept reported text t l = []
told_in (line ∷ lines) s kept reported text t l = told_of l.7.step l.7.asked l.4 l.0 l.7.due ++ told_in lines l.0 l.2 l.5 l.6 t l.8

-- after each of them edges are reported, and the pin is high
abbrev pub AreOn : (lines : List (List ℕ)) (s : Session) (kept : List (List ℕ)) (reported text : List ℕ) (t : Session) → AreLines lines s kept reported text t → Type 0
AreOn [] s kept reported text t l = Unit {0}
AreOn (line ∷ lines) s kept reported text t l = (l.0.edges ≡ true) × (l.0.notes.pin ≡ None) × AreOn lines l.0 l.2 l.5 l.6 t l.8

-- These are the edges of an edge file that lie in a span, all that do and no other, as lines or as objects. The file has its edges in order.
pub record AreOfFile (form : Form) (span : InstantRange) (told file : List ℕ) : Type 0 where
  pub wave : List Stretch
  pub order : IsWave wave
  pub end : ℕ
  pub file_is : file ≡ edge_lines wave ++ end_line end
  pub told_is : told ≡ edges_reported form span wave

-- The edges that a session tells, over lines after which edges are on and the pin is high, are those of the edge file of every run that
-- may still come of the lines that were taken, from the horizon before them to the one after them: where edges are on from its first
-- line on, all that lie before the horizon. A run has its pulses in order, and no frame without a block.
abbrev pub EdgesAreCertain : Type 0
EdgesAreCertain = (reporting : Reporting) (tree : List Node) (before lines kept more : List (List ℕ)) (x y text told : List ℕ) (s t : Session) → AreLines before (first_session reporting tree) kept x text s
    → (l : AreLines lines s more y told t) → AreOn lines s more y told t l → t.notes.end ≡ None
    → (events : List TimedEvent) (later : List Stretch) (end : ℕ) (file : List ℕ) (totals : Totals) → MayCome t.notes.pin t.horizon events later end
    → IsWave (t.notes.pulses ++ later) → AreFramedEvents events
    → IsRunText (Line Edges) end (start (first_net tree (t.notes.pulses ++ later)) (t.notes.events ++ events)) file totals
    → AreOfFile (form_of reporting) (record { from = s.horizon; until = t.horizon }) (told_in lines s more y told t l) file

-- And once the script has ended, what is told from any line on is all that is left of the edge file of the run that the lines are.
abbrev pub EdgesAreTold : Type 0
EdgesAreTold = (reporting : Reporting) (tree : List Node) (before lines kept more : List (List ℕ)) (x y text told : List ℕ) (s t : Session) (end : ℕ) → AreLines before (first_session reporting tree) kept x text s
    → (l : AreLines lines s more y told t) → AreOn lines s more y told t l → s.notes.end ≡ None → t.notes.end ≡ Some end
    → (file : List ℕ) (totals : Totals) → IsRunText (Line Edges) end (start (first_net tree t.notes.pulses) t.notes.events) file totals
    → AreOfFile (form_of reporting) (record { from = s.horizon; until = 18446744073709551615 }) (told_in lines s more y told t l) file

-- A line by itself, whether the pin is high or low after it: what it tells of edges, where these are on, is what the edge file of every run
-- that may still come has from the horizon before the line to the one after it. A run ends by the latest time of a script.
abbrev pub LineEdgesAreCertain : Type 0
LineEdgesAreCertain = (reporting : Reporting) (tree : List Node) (before kept : List (List ℕ)) (x text : List ℕ) (s t : Session) (line own y told : List ℕ) → AreLines before (first_session reporting tree) kept x text s
    → (is : IsLine s line own y told t) → t.edges ≡ true → t.notes.end ≡ None
    → (events : List TimedEvent) (later : List Stretch) (end : ℕ) (file : List ℕ) (totals : Totals) → MayCome t.notes.pin t.horizon events later end → end ≤ latest_event
    → IsWave (t.notes.pulses ++ later) → AreFramedEvents events
    → IsRunText (Line Edges) end (start (first_net tree (t.notes.pulses ++ later)) (t.notes.events ++ events)) file totals
    → AreOfFile (form_of reporting) (record { from = s.horizon; until = t.horizon }) (told_of is.step is.asked told t is.due) file
