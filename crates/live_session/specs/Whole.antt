-- Whole sessions: what their lines have reported of the trace, and the script that they are (this profile's own).
use Rattle.std.specs.Prelude.{◌≡◌, ℕ, ◌≤◌, false, List, [], ◌∷◌, ◌++◌, length, Option, Some, None, Ok, All}
use Rattle.line_wave.specs.declared.Stretch.{Stretch}
use Rattle.edid_tree.specs.Node.{Node}
use Rattle.edid_core.specs.declared.edid.Edid.{Edid}
use Rattle.room_net.specs.State.{first_net}
use Rattle.live_incoming.specs.Incoming.{IsWhole, text_of_lines}
use Rattle.room_script.specs.Topology.{topology_of, Plan}
use Rattle.room_script.specs.declared.script.TimedEvent.{TimedEvent}
use Rattle.edid_core.specs.Root.{IsRoot}
use Rattle.record_core.specs.declared.cell.Form.{Form}
use Rattle.record_core.specs.declared.cell.Form.TheVariants.{Text, Json}
use Rattle.room_run.specs.declared.run.Reporting.{Reporting}
use Rattle.room_run.specs.declared.run.Totals.{Totals}
use Rattle.room_run.specs.Run.{start, end_reported, IsRunText}
use Rattle.room_run.specs.Emulate.{AreObjectsOf, IsTraceOf}
use Rattle.room_run.specs.Causal.{BeginsWith, before_reported}
use Rattle.live_session.specs.declared.command.SessionCommand.{SessionCommand}
use Rattle.live_session.specs.declared.command.SessionCommand.TheVariants as commands
use Rattle.live_session.specs.declared.live.Step.{Step}
use Rattle.live_session.specs.declared.live.Step.TheVariants.{Refuse, Idle, Show, Go, Edge, Finish}
use Rattle.live_session.specs.Turns.{MayCome, reporting_of}
use Rattle.live_session.specs.Command.{command_of}
use Rattle.live_session.specs.Session.{Session, first_session, IsStep, IsDue}
use Rattle.line_wave.specs.Bounds.{most_pulses}

-- what is due of a step without its answer, the edges and the notes: lines of the trace
abbrev pub reported_of : (step : Step) (s : Session) (text : List ℕ) (t : Session) → IsDue step s text t → List ℕ
reported_of (Refuse refusal) s text t due = []
reported_of Idle s text t due = []
reported_of (Show device) s text t due = []
reported_of Go s text t due = due.0
reported_of Edge s text t due = due.0
reported_of Finish s text t due = due.0 ++ end_reported s.reporting s.horizon due.2.net

-- a line of the script as it was taken, and an empty one where it was refused
abbrev pub kept_by : Step → List ℕ → List ℕ
kept_by (Refuse refusal) line = []
kept_by Idle line = []
kept_by (Show device) line = []
kept_by Go line = line
kept_by Edge line = line
kept_by Finish line = line

-- the session's own lines are empty too
abbrev pub kept_line : SessionCommand → Step → List ℕ → List ℕ
kept_line commands.Script step line = kept_by step line
kept_line commands.Wait step line = []
kept_line (commands.WaitUntil time) step line = []
kept_line (commands.RunTo time) step line = []
kept_line (commands.Show device) step line = []
kept_line (commands.Edge time) step line = []
kept_line (commands.Edges edges) step line = []
kept_line (commands.Seats seats) step line = []

-- A line of a session whose script has not ended: what of it is of the script, what was written, and what of that is of the
-- trace.
pub record IsLine (s : Session) (line kept reported text : List ℕ) (t : Session) : Type 0 where
  pub goes_on : s.notes.end ≡ None
  pub step : Step
  pub asked : Session
  pub asks : IsStep s line step asked
  pub due : IsDue step asked text t
  pub kept_is : kept ≡ kept_line (command_of s.tree line) step line
  pub reported_is : reported ≡ reported_of step asked text t due

-- one line after another
abbrev pub AreLines : List (List ℕ) → Session → List (List ℕ) → List ℕ → List ℕ → Session → Type 0
AreLines [] s kept reported text t = (kept ≡ []) × (reported ≡ []) × (text ≡ []) × (t ≡ s)
AreLines (line ∷ lines) s kept reported text t =
    (mid : Session) × (here : List ℕ) × (there : List (List ℕ)) × (first : List ℕ) × (second : List ℕ) × (more : List ℕ) × (rest : List ℕ)
    × IsLine s line here first second mid × AreLines lines mid there more rest t × (kept ≡ here ∷ there) × (reported ≡ first ++ more) × (text ≡ second ++ rest)

-- While a session goes on, what its lines have reported, without the answers, is the front of the trace, or of its objects, of every run that may still
-- come of the lines that were taken.
abbrev pub SessionsReportFronts : Type 0
SessionsReportFronts = (reporting : Reporting) (tree : List Node) (lines kept : List (List ℕ)) (reported text : List ℕ) (t : Session) → AreLines lines (first_session reporting tree) kept reported text t → t.notes.end ≡ None
    → (events : List TimedEvent) (later : List Stretch) (end : ℕ) (whole : List ℕ) (totals : Totals) → MayCome t.notes.pin t.horizon events later end
    → IsRunText reporting end (start (first_net tree (t.notes.pulses ++ later)) (t.notes.events ++ events)) whole totals
    → BeginsWith (before_reported reporting tree t.notes.pulses reported) whole

-- And once it has ended it is that trace, or those objects.
abbrev pub SessionsReportTraces : Type 0
SessionsReportTraces = (reporting : Reporting) (tree : List Node) (lines kept : List (List ℕ)) (reported text : List ℕ) (t : Session) (end : ℕ) → AreLines lines (first_session reporting tree) kept reported text t
    → t.notes.end ≡ Some end
    → IsRunText reporting end (start (first_net tree t.notes.pulses) t.notes.events) (before_reported reporting tree t.notes.pulses reported) t.place.totals

-- ---- the script that was taken

-- the trace that a topology and a script have, or the objects of that
abbrev pub IsReportOf : Form → List ℕ → List ℕ → List ℕ → Totals → Type 0
IsReportOf Text topology script text totals = IsTraceOf topology script text totals
IsReportOf Json topology script text totals = AreObjectsOf false topology script text totals

-- So what a session has reported is, without the answers, the trace that the topology and its script have, or its objects, with the lines that were
-- refused and the session's own ones emptied: where that script has no more pulses than one may have, for those that a session
-- has let go count no more.
abbrev pub SessionsReportTracesOf : Type 0
SessionsReportTracesOf = (topology : List ℕ) (plan : Plan) (form : Form) (edid : Option Edid) (lines kept : List (List ℕ)) (reported text : List ℕ) (t : Session) (end : ℕ)
    → topology_of topology ≡ Ok plan → IsRoot plan.edid edid → All IsWhole lines → length lines ≤ 18446744073709551615 → length t.notes.pulses ≤ most_pulses
    → AreLines lines (first_session (reporting_of form edid) plan.tree) kept reported text t → t.notes.end ≡ Some end
    → IsReportOf form topology (text_of_lines kept) (before_reported (reporting_of form edid) plan.tree [] reported) t.place.totals
