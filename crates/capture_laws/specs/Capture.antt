-- The edge file of a run, as a monitor reads it (own).
use Rattle.std.specs.Prelude.{◌≡◌, ℕ, ◌≤◌, false, List, [], ◌++◌, map, Option, Ok, codes}
use Rattle.std.specs.List.{flat_map}
use Rattle.line_wave.specs.declared.Stretch.{Stretch}
use Rattle.line_wave.specs.Line.{line_of, IsWave}
use Rattle.line_wave.specs.Bounds.{latest_event, latest_instant}
use Rattle.line_rounds.specs.Alone.{outcome_listed}
use Rattle.edid_core.specs.declared.edid.Edid.{Edid}
use Rattle.edid_tree.specs.Node.{Node}
use Rattle.room_net.specs.State.{NetState, first_net}
use Rattle.room_script.specs.Script.{AreFramedEvents}
use Rattle.room_script.specs.declared.script.TimedEvent.{TimedEvent}
use Rattle.capture_core.specs.Edges.{edges_of}
use Rattle.capture_forms.specs.declared.form.CaptureForm.TheVariants.{Edges}
use Rattle.room_run.specs.declared.run.Reporting.TheVariants.{Trace, Line}
use Rattle.room_run.specs.declared.run.Totals.{Totals}
use Rattle.capture_monitor.specs.EdgeText.{edge_lines}
use Rattle.room_trace.specs.TraceText.{end_line}
use Rattle.room_run.specs.Run.{start, start_reported, end_reported, IsRunText}
use Rattle.room_run.specs.Emulate.{IsTraceOf, IsEdgeTraceOf}
use Rattle.room_run.specs.OneRun.{AreOverBy, rounds_reported, Part, OfEvent, OfRound, part_text}
use Rattle.capture_core.specs.Edges.{line_of_edges}
use Rattle.capture_monitor.specs.EdgeFile.{EdgeFile, file_of}
use Rattle.message_text.specs.ReadingText.{reading_text}
use Rattle.capture_monitor.specs.Watch.{file_readings, readings_text}

-- what is written of these stretches and this end is read as their edges, which tell their line
pub record IsReadBack (ss : List Stretch) (end : ℕ) : Type 0 where
  pub file : file_of (edge_lines ss ++ end_line end) ≡ Ok (record { edges = edges_of ss; end = end })
  pub line : (u : ℕ) → line_of_edges (edges_of ss) u ≡ line_of ss u

-- of a line that is high from the end on, within the limit of an edge file
abbrev pub EdgeFilesAreReadBack : Type 0
EdgeFilesAreReadBack = (ss : List Stretch) (end : ℕ) → IsWave ss → ((u : ℕ) → end ≤ u → line_of ss u ≡ false) → end ≤ latest_instant
    → IsReadBack ss end

-- The text of edges of a run within the limit of scripts is an edge file, whose readings are those of the run's rounds, in order,
-- each once.
abbrev pub FilesOfRunsHaveTheirReadings : Type 0
FilesOfRunsHaveTheirReadings = (tree : List Node) (pulses : List Stretch) (events : List TimedEvent) (end : ℕ) (text : List ℕ) (totals : Totals)
    → AreOverBy latest_instant end pulses → AreFramedEvents events → (reported : IsRunText (Line Edges) end (start (first_net tree pulses) events) text totals) → end ≤ latest_event
    → (f : EdgeFile) × (file_of text ≡ Ok f) × (file_readings f ≡ map outcome_listed (rounds_reported (Line Edges) end (start (first_net tree pulses) events) text totals reported))

-- of a part of a trace what a monitor writes: of a round's line the reading, without `by` and `out`, and nothing of an event
abbrev pub part_monitored : Part → List ℕ
part_monitored (OfEvent at e before) = []
part_monitored (OfRound devices o) = reading_text o.reading ++ codes "\n"

-- a trace, part by part, and beside it what a monitor writes of the same parts
pub record AreBeside (edid : Option Edid) (end : ℕ) (first last : NetState) (trace monitored : List ℕ) : Type 0 where
  pub parts : List Part
  pub trace_is : trace ≡ start_reported (Trace edid) first ++ (flat_map (part_text edid) parts ++ end_reported (Trace edid) end last)
  pub monitored_is : monitored ≡ flat_map part_monitored parts

-- Of a topology and a script, the edges are an edge file, and what a monitor writes of it is the trace's lines of rounds, in order, each
-- without `by` and `out`.
abbrev pub MonitorsReportTraces : Type 0
MonitorsReportTraces = (topology script x y : List ℕ) (s t : Totals) → (p : IsTraceOf topology script x s) → IsEdgeTraceOf topology script y t
    → (f : EdgeFile) × (file_of y ≡ Ok f)
    × AreBeside p.edid p.course.end (first_net p.plan.tree p.course.pulses) p.trace.run.last.net x (readings_text (file_readings f))
