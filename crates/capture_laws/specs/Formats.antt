-- The line of a run, in each format, as it is read and monitored (own).
use Rattle.std.specs.Prelude.{◌≡◌, ℕ, ◌≤◌, false, List, [], map, Ok}
use Rattle.std.specs.List.{flat_map}
use Rattle.line_wave.specs.declared.Stretch.{Stretch}
use Rattle.line_wave.specs.Line.{line_of, IsWave}
use Rattle.line_wave.specs.Bounds.{latest_event, latest_instant}
use Rattle.line_rounds.specs.Alone.{outcome_listed}
use Rattle.edid_tree.specs.Node.{Node}
use Rattle.room_net.specs.State.{first_net}
use Rattle.room_script.specs.Script.{AreFramedEvents}
use Rattle.room_script.specs.declared.script.TimedEvent.{TimedEvent}
use Rattle.capture_core.specs.Edges.{Captured, IsCapture, edges_of}
use Rattle.capture_vcd.specs.Dump as vcd
use Rattle.capture_pin.specs.Pin as pin
use Rattle.capture_csv.specs.Csv as csv
use Rattle.capture_monitor.specs.EdgeFile.{file_of}
use Rattle.capture_monitor.specs.Watch.{as_file, file_readings, readings_text}
use Rattle.capture_forms.specs.Format.{line_text}
use Rattle.capture_forms.specs.declared.form.CaptureForm.{CaptureForm}
use Rattle.capture_forms.specs.declared.form.CaptureForm.TheVariants.{Edges, Vcd, Pin, Csv}
use Rattle.room_run.specs.declared.run.Reporting.TheVariants.{Line}
use Rattle.room_run.specs.declared.run.Totals.{Totals}
use Rattle.room_run.specs.Run.{start, IsRunText}
use Rattle.room_run.specs.Emulate.{IsTraceOf, IsLineOf}
use Rattle.room_run.specs.OneRun.{AreOverBy, rounds_reported}
use Rattle.capture_laws.specs.Capture.{AreBeside}

-- a text in a format is read as this capture
abbrev pub IsReadAs : CaptureForm → List ℕ → Captured → Type 0
IsReadAs Edges text c = file_of text ≡ Ok (as_file c)
IsReadAs Vcd text c = vcd.edges_in [] text ≡ Ok c
IsReadAs Pin text c = pin.edges_in text ≡ Ok c
IsReadAs Csv text c = csv.edges_in [] text ≡ Ok c

-- What is written of a line that rounds make, and that is high from the end on, is read as the line's edges, within the limit of
-- a capture.
abbrev pub LinesAreReadBack : Type 0
LinesAreReadBack = (format : CaptureForm) (rounds : List (List Stretch)) (end : ℕ) → IsWave (flat_map (λ ss. ss) rounds)
    → ((u : ℕ) → end ≤ u → line_of (flat_map (λ ss. ss) rounds) u ≡ false) → end ≤ latest_instant
    → IsReadAs format (line_text format rounds end) (record { edges = edges_of (flat_map (λ ss. ss) rounds); end = end })

-- a text is read as a capture
pub record IsReadText (format : CaptureForm) (text : List ℕ) (c : Captured) : Type 0 where
  pub read : IsReadAs format text c
  pub capture : IsCapture c.edges c.end

-- The line of a run within the limit of scripts, written in any format, is read as a capture whose readings are those of the run's
-- rounds, in order, each once.
abbrev pub LinesOfRunsHaveTheirReadings : Type 0
LinesOfRunsHaveTheirReadings = (format : CaptureForm) (tree : List Node) (pulses : List Stretch) (events : List TimedEvent) (end : ℕ) (text : List ℕ) (totals : Totals)
    → AreOverBy latest_instant end pulses → AreFramedEvents events → (reported : IsRunText (Line format) end (start (first_net tree pulses) events) text totals) → end ≤ latest_event
    → (c : Captured) × IsReadText format text c
    × (file_readings (as_file c) ≡ map outcome_listed (rounds_reported (Line format) end (start (first_net tree pulses) events) text totals reported))

-- Of a topology and a script, the line in any format is read as a capture, and what a monitor writes of it is the trace's lines of
-- rounds, in order, each without `by` and `out`.
abbrev pub MonitorsReportTracesInAll : Type 0
MonitorsReportTracesInAll = (format : CaptureForm) (topology script x y : List ℕ) (s t : Totals) → (p : IsTraceOf topology script x s) → IsLineOf format topology script y t
    → (c : Captured) × IsReadText format y c
    × AreBeside p.edid p.course.end (first_net p.plan.tree p.course.pulses) p.trace.run.last.net x (readings_text (file_readings (as_file c)))
