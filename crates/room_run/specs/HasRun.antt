-- A run has a text (own).
use Rattle.std.specs.Prelude.{ℕ, Bool, List, Option}
use Rattle.line_wave.specs.declared.Stretch.{Stretch}
use Rattle.line_wave.specs.Line.{IsWave}
use Rattle.edid_tree.specs.Node.{Node}
use Rattle.edid_core.specs.declared.edid.Edid.{Edid}
use Rattle.room_script.specs.Topology.{Plan}
use Rattle.room_script.specs.Script.{Course}
use Rattle.room_script.specs.declared.script.TimedEvent.{TimedEvent}
use Rattle.room_net.specs.State.{first_net}
use Rattle.edid_core.specs.Root.{IsRoot}
use Rattle.room_run.specs.declared.run.Reporting.{Reporting}
use Rattle.room_run.specs.declared.run.Totals.{Totals}
use Rattle.room_run.specs.Run.{start, IsRunText}
use Rattle.capture_forms.specs.declared.form.CaptureForm.{CaptureForm}
use Rattle.room_run.specs.Emulate.{AreObjectsOf, IsAccepted, IsTraceOf, IsLineOf}

-- whatever is told of it, and whatever pulls in order there are: it stops, and each of its rounds has an outcome
abbrev pub RunsHaveTexts : Type 0
RunsHaveTexts = (reporting : Reporting) (tree : List Node) (pulses : List Stretch) (events : List TimedEvent) (end : ℕ) → IsWave pulses
    → (text : List ℕ) × (totals : Totals) × IsRunText reporting end (start (first_net tree pulses) events) text totals

-- A topology and a script that are accepted, with an EDID that is none or is read, have a trace, and a text of
-- their line in each format,
abbrev pub TextsHaveTraces : Type 0
TextsHaveTraces = (topology script : List ℕ) (plan : Plan) (course : Course) (edid : Option Edid) → IsAccepted topology script plan course → IsRoot plan.edid edid
    → ((text : List ℕ) × (totals : Totals) × IsTraceOf topology script text totals) × ((format : CaptureForm) → (text : List ℕ) × (totals : Totals) × IsLineOf format topology script text totals)

-- and the objects of the trace, with those of the room and without
abbrev pub TextsHaveObjects : Type 0
TextsHaveObjects = (with_room : Bool) (topology script : List ℕ) (plan : Plan) (course : Course) (edid : Option Edid) → IsAccepted topology script plan course → IsRoot plan.edid edid
    → (text : List ℕ) × (totals : Totals) × AreObjectsOf with_room topology script text totals
