-- The line of a whole run, and what is read on it (own).
use Rattle.std.specs.Prelude.{◌≡◌, ℕ, zero, suc, ◌+◌, ◌/◌, ◌≤◌, max, false, List, [], ◌∷◌, ◌++◌, length, map}
use Rattle.line_wave.specs.declared.Stretch.{Stretch}
use Rattle.line_wave.specs.Line.{line_of, IsWave}
use Rattle.line_frames.specs.FreeTime.{free_time_of}
use Rattle.line_frames.specs.declared.free_time.FreeTime.TheVariants.{Retry}
use Rattle.line_reading.specs.Readings.{readings_of}
use Rattle.line_rounds.specs.declared.Outcome.{Outcome}
use Rattle.line_rounds.specs.Alone.{outcome_listed}
use Rattle.room_net.specs.Line.{run_wave}
use Rattle.room_net.specs.State.{first_net}
use Rattle.edid_tree.specs.Node.{Node}
use Rattle.room_script.specs.Script.{AreFramedEvents}
use Rattle.room_script.specs.declared.script.TimedEvent.{TimedEvent}
use Rattle.room_run.specs.declared.run.Turn.{Turn}
use Rattle.room_run.specs.declared.run.Turn.TheVariants.{Stop, Apply, Round}
use Rattle.room_run.specs.declared.run.Reporting.{Reporting}
use Rattle.capture_forms.specs.Format.{line_text}
use Rattle.capture_forms.specs.declared.form.CaptureForm.{CaptureForm}
use Rattle.capture_forms.specs.declared.form.CaptureForm.TheVariants.{Edges}
use Rattle.room_run.specs.declared.run.Reporting.TheVariants.{Line}
use Rattle.capture_monitor.specs.EdgeText.{edge_lines}
use Rattle.room_trace.specs.TraceText.{end_line}
use Rattle.room_run.specs.declared.run.Totals.{Totals}
use Rattle.room_run.specs.Run.{Config, start, turn_at, IsTurnBy, Leads, IsRunText}

-- the rounds of a turn: one, or none
abbrev pub rounds_by : (reporting : Reporting) (turn : Turn) (c : Config) (text : List ℕ) (d : Config) → IsTurnBy reporting turn c text d → List Outcome
rounds_by reporting Stop c text d t = []
rounds_by reporting (Apply at) c text d t = []
rounds_by reporting (Round begin) c text d t = t.0.outcome ∷ []

-- the rounds of a run, in order: those that its text reports
abbrev pub rounds_in : (reporting : Reporting) (end turns : ℕ) (c : Config) (text : List ℕ) (d : Config) → Leads reporting end turns c text d → List Outcome
rounds_in reporting end zero c text d l = []
rounds_in reporting end (suc turns) c text d l = rounds_by reporting (turn_at end c) c l.1 l.0 l.3 ++ rounds_in reporting end turns l.0 l.2 d l.4

-- The whole line of a run is in order and high from the end or the last close on, and its readings, cut there, are those of
-- its rounds, in order, each once.
pub record IsRead (os : List Outcome) (end : ℕ) : Type 0 where
  pub wave : IsWave (run_wave os)
  pub over : (u : ℕ) → end ≤ u → line_of (run_wave os) u ≡ false
  pub readings : readings_of (line_of (run_wave os)) end ≡ map outcome_listed os

abbrev pub RunsAreRead : Type 0
RunsAreRead = (reporting : Reporting) (tree : List Node) (pulses : List Stretch) (events : List TimedEvent) (end turns : ℕ) (text : List ℕ) (d : Config)
    → IsWave pulses → AreFramedEvents events → (leads : Leads reporting end turns (start (first_net tree pulses) events) text d)
    → IsRead (rounds_in reporting end turns (start (first_net tree pulses) events) text d leads) (max end d.net.close)

-- The text of a run's line in a format is that of its rounds, one after another, and of an end that is the later of the
-- script's end and the last close; and cut there, the line that the rounds make has their readings, in order, each once.
pub record IsLineText (format : CaptureForm) (os : List Outcome) (end : ℕ) (text : List ℕ) : Type 0 where
  pub read : IsRead os end
  pub whole : text ≡ line_text format (map (λ o. o.wave) os) end

abbrev pub LinesAreOfTheRounds : Type 0
LinesAreOfTheRounds = (format : CaptureForm) (tree : List Node) (pulses : List Stretch) (events : List TimedEvent) (end : ℕ) (text : List ℕ) (totals : Totals)
    → IsWave pulses → AreFramedEvents events → (reported : IsRunText (Line format) end (start (first_net tree pulses) events) text totals)
    → IsLineText format (rounds_in (Line format) end reported.run.turns (start (first_net tree pulses) events) reported.run.body reported.run.last reported.run.leads) (max end reported.run.last.net.close) text

-- In an edge file that is the text of the whole line.
pub record IsEdgeText (os : List Outcome) (end : ℕ) (text : List ℕ) : Type 0 where
  pub read : IsRead os end
  pub whole : text ≡ edge_lines (run_wave os) ++ end_line end

abbrev pub EdgesAreTheLine : Type 0
EdgesAreTheLine = (tree : List Node) (pulses : List Stretch) (events : List TimedEvent) (end : ℕ) (text : List ℕ) (totals : Totals)
    → IsWave pulses → AreFramedEvents events → (reported : IsRunText (Line Edges) end (start (first_net tree pulses) events) text totals)
    → IsEdgeText (rounds_in (Line Edges) end reported.run.turns (start (first_net tree pulses) events) reported.run.body reported.run.last reported.run.leads) (max end reported.run.last.net.close) text

-- A run ends: it has at most one round for each shortest signal free time (CEC 9.1) before its end, and one more for each pulse
-- and pull.
abbrev pub RunsAreShort : Type 0
RunsAreShort = (reporting : Reporting) (tree : List Node) (pulses : List Stretch) (events : List TimedEvent) (end : ℕ) (text : List ℕ) (totals : Totals)
    → IsWave pulses → AreFramedEvents events → IsRunText reporting end (start (first_net tree pulses) events) text totals → totals.rounds ≤ end / free_time_of Retry + length pulses
