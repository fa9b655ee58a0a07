-- What a run reports before an instant depends on what its script says before that instant alone (this profile's own).
use Rattle.std.specs.Prelude.{◌≡◌, ℕ, List, ◌++◌}
use Rattle.line_wave.specs.declared.Stretch.{Stretch}
use Rattle.line_wave.specs.Line.{IsWave}
use Rattle.edid_tree.specs.Node.{Node}
use Rattle.room_script.specs.Script.{Course, AreFramedEvents}
use Rattle.room_script.specs.declared.script.TimedEvent.{TimedEvent}
use Rattle.room_net.specs.State.{first_net}
use Rattle.room_run.specs.declared.run.Reporting.{Reporting}
use Rattle.room_run.specs.declared.run.Reporting.TheVariants.{Trace}
use Rattle.room_run.specs.declared.run.Totals.{Totals}
use Rattle.room_run.specs.Run.{Config, start, start_reported, IsRunText}
use Rattle.room_run.specs.Emulate.{IsTraceOf}
use Rattle.room_run.specs.Certain.{ComesFrom, AllBefore}

-- ---- of runs

-- a text that begins so
abbrev pub BeginsWith : List ℕ → List ℕ → Type 0
BeginsWith front text = (more : List ℕ) × (text ≡ front ++ more)

-- what is reported before an instant, the start included
abbrev pub before_reported : Reporting → List Node → List Stretch → List ℕ → List ℕ
before_reported reporting tree pulses body = start_reported reporting (first_net tree pulses) ++ body

-- Every run that begins with these events and pulses, and in which all else comes at an instant or later, begins with one
-- text: that of all turns that are over before the instant.
abbrev pub RunsAreCausal : Type 0
RunsAreCausal = (reporting : Reporting) (tree : List Node) (pulses : List Stretch) (events : List TimedEvent) (until : ℕ) → IsWave pulses → AreFramedEvents events
    → (body : List ℕ) × (last : Config) × AllBefore reporting until (start (first_net tree pulses) events) body last
    × ((more : List TimedEvent) (later : List Stretch) (end : ℕ) (text : List ℕ) (totals : Totals) → ComesFrom until more later end
    → IsRunText reporting end (start (first_net tree (pulses ++ later)) (events ++ more)) text totals
    → BeginsWith (before_reported reporting tree pulses body) text)

-- ---- of texts

-- a script says these events and pulses, and all else that it says is for an instant or later
pub record Continues (until : ℕ) (events : List TimedEvent) (pulses : List Stretch) (course : Course) : Type 0 where
  pub more : List TimedEvent
  pub later : List Stretch
  pub events_are : course.events ≡ events ++ more
  pub pulses_are : course.pulses ≡ pulses ++ later
  pub comes : ComesFrom until more later course.end

-- two scripts say the same before an instant
pub record AgreeBefore (until : ℕ) (one other : Course) : Type 0 where
  pub events : List TimedEvent
  pub pulses : List Stretch
  pub first : Continues until events pulses one
  pub second : Continues until events pulses other

-- The traces of two scripts on one topology that say the same before an instant begin with one text: that of all turns that
-- are over before the instant.
abbrev pub TracesAreCausal : Type 0
TracesAreCausal = (topology script other x y : List ℕ) (s t : Totals) (until : ℕ) → (p : IsTraceOf topology script x s) → (q : IsTraceOf topology other y t)
    → (agree : AgreeBefore until p.course q.course)
    → (body : List ℕ) × (last : Config) × AllBefore (Trace p.edid) until (start (first_net p.plan.tree agree.pulses) agree.events) body last
    × BeginsWith (before_reported (Trace p.edid) p.plan.tree agree.pulses body) x × BeginsWith (before_reported (Trace p.edid) p.plan.tree agree.pulses body) y
