-- What the texts of a topology and a script give.
use Rattle.std.specs.Prelude.{◌≡◌, ℕ, ◌<◌, Bool, true, false, List, length, take, Option, Some, Result, Ok, Err}
use Rattle.std.specs.Io.KnownBytes.{Appends}
use Rattle.room_script.specs.Topology.{topology_of, Plan}
use Rattle.room_script.specs.Script.{IsScriptRead, Course}
use Rattle.room_script.specs.declared.topology.TopologyError.{TopologyError}
use Rattle.room_script.specs.declared.topology.TopologyError.TheVariants as topologies
use Rattle.room_script.specs.declared.script.ScriptError.{ScriptError}
use Rattle.room_script.specs.declared.script.ScriptError.TheVariants as scripts
use Rattle.room_net.specs.State.{first_net}
use Rattle.edid_core.specs.declared.edid.Edid.{Edid as EdidValue}
use Rattle.room_run.specs.declared.emulate.EmulateError.{EmulateError}
use Rattle.room_run.specs.declared.emulate.EmulateError.TheVariants.{Topology, Script, Edid, Write, Memory}
use Rattle.room_run.specs.declared.run.Totals.{Totals}
use Rattle.text_core.specs.Cut.{reported_count}
use Rattle.edid_core.specs.Root.{IsRoot, IsNoRoot}
use Rattle.edid_core.specs.declared.root.RootError.{RootError}
use Rattle.edid_core.specs.declared.root.RootError.TheVariants as roots
use Rattle.capture_forms.specs.declared.form.CaptureForm.{CaptureForm}
use Rattle.capture_forms.specs.declared.form.CaptureForm.TheVariants.{Edges}
use Rattle.room_run.specs.declared.run.Reporting.TheVariants.{Line, Objects}
use Rattle.room_run.specs.Run.{start, IsRunText, IsTrace}
use Rattle.room_trace.specs.Room.{room_if}

-- the texts spell this topology and this script
pub record IsAccepted (topology script : List ℕ) (plan : Plan) (course : Course) : Type 0 where
  pub plan_is : topology_of topology ≡ Ok plan
  pub course_is : IsScriptRead plan.tree script (Ok course)

-- the trace of the run that the texts spell
pub record IsTraceOf (topology script text : List ℕ) (totals : Totals) : Type 0 where
  pub plan : Plan
  pub course : Course
  pub edid : Option EdidValue
  pub accepted : IsAccepted topology script plan course
  pub root : IsRoot plan.edid edid
  pub trace : IsTrace edid course.end (start (first_net plan.tree course.pulses) course.events) text totals

-- the objects of that trace, with those of the room or without
pub record AreObjectsOf (with_room : Bool) (topology script text : List ℕ) (totals : Totals) : Type 0 where
  pub plan : Plan
  pub course : Course
  pub edid : Option EdidValue
  pub accepted : IsAccepted topology script plan course
  pub root : IsRoot plan.edid edid
  pub objects : IsRunText (Objects edid (room_if with_room topology script)) course.end (start (first_net plan.tree course.pulses) course.events) text totals

-- the line of the run that the texts spell, and its end, in a format
pub record IsLineOf (format : CaptureForm) (topology script text : List ℕ) (totals : Totals) : Type 0 where
  pub plan : Plan
  pub course : Course
  pub edid : Option EdidValue
  pub accepted : IsAccepted topology script plan course
  pub root : IsRoot plan.edid edid
  pub line : IsRunText (Line format) course.end (start (first_net plan.tree course.pulses) course.events) text totals

-- its edges
abbrev pub IsEdgeTraceOf : List ℕ → List ℕ → List ℕ → Totals → Type 0
IsEdgeTraceOf topology script text totals = IsLineOf Edges topology script text totals

-- the texts of a topology and a script have one trace, and one count of what it reports
abbrev pub TextsHaveOneTrace : Type 0
TextsHaveOneTrace = (topology script x y : List ℕ) (s t : Totals) → IsTraceOf topology script x s → IsTraceOf topology script y t → (x ≡ y) × (s ≡ t)

abbrev pub topology_reported : TopologyError → EmulateError
topology_reported (topologies.At fault) = Topology fault.line fault.cause fault.word
topology_reported topologies.Memory = Memory

abbrev pub script_reported : ScriptError → EmulateError
script_reported (scripts.At fault) = Script fault.line fault.cause fault.word
script_reported scripts.Memory = Memory

abbrev pub root_reported : RootError → EmulateError
root_reported (roots.Cause cause) = Edid cause
root_reported roots.Memory = Memory

-- and one text of its objects, with those of the room and without
abbrev pub TextsHaveOneTextOfObjects : Type 0
TextsHaveOneTextOfObjects = (with_room : Bool) (topology script x y : List ℕ) (s t : Totals) → AreObjectsOf with_room topology script x s → AreObjectsOf with_room topology script y t → (x ≡ y) × (s ≡ t)

-- and one text of their line in each format
abbrev pub TextsHaveOneLine : Type 0
TextsHaveOneLine = (format : CaptureForm) (topology script x y : List ℕ) (s t : Totals) → IsLineOf format topology script x s → IsLineOf format topology script y t → (x ≡ y) × (s ≡ t)

-- when each refusal comes: the topology's, then the script's, then the EDID; of memory nothing is said
abbrev pub IsReported : List ℕ → List ℕ → EmulateError → Type 0
IsReported topology script (Topology line cause word) = topology_of topology ≡ Err (record { line = line; cause = cause; word = word })
IsReported topology script (Script line cause word) = (plan : Plan) × (topology_of topology ≡ Ok plan) × IsScriptRead plan.tree script (Err (record { line = line; cause = cause; word = word }))
IsReported topology script (Edid cause) = (plan : Plan) × (course : Course) × IsAccepted topology script plan course × (bytes : List ℕ) × (plan.edid ≡ Some bytes) × IsNoRoot bytes cause
IsReported topology script (Write count) = (plan : Plan) × (course : Course) × IsAccepted topology script plan course × (edid : Option EdidValue) × IsRoot plan.edid edid
IsReported topology script Memory = Unit {0}

abbrev pub is_write : Result Totals EmulateError → Bool
is_write (Ok totals) = false
is_write (Err (Write count)) = true
is_write (Err _) = false

-- what a refusal has written: after a failed write the front of the text due, which there is, and else nothing
abbrev pub IsCutText : (List ℕ → Totals → Type 0) → Option (List ℕ) → Option (List ℕ) → EmulateError → Type 0
IsCutText IsDue old new (Write reported) =
    (text : List ℕ) × (totals : Totals) × IsDue text totals × (count : ℕ) × (count < length text) × (reported ≡ reported_count count) × Appends old new (take count text)
IsCutText IsDue old new (Topology line cause word) = new ≡ old
IsCutText IsDue old new (Script line cause word) = new ≡ old
IsCutText IsDue old new (Edid cause) = new ≡ old
IsCutText IsDue old new Memory = new ≡ old

abbrev pub IsCut : List ℕ → List ℕ → Option (List ℕ) → Option (List ℕ) → EmulateError → Type 0
IsCut topology script = IsCutText (IsTraceOf topology script)

abbrev pub AreObjectsCut : Bool → List ℕ → List ℕ → Option (List ℕ) → Option (List ℕ) → EmulateError → Type 0
AreObjectsCut with_room topology script = IsCutText (AreObjectsOf with_room topology script)

abbrev pub IsLineCut : CaptureForm → List ℕ → List ℕ → Option (List ℕ) → Option (List ℕ) → EmulateError → Type 0
IsLineCut format topology script = IsCutText (IsLineOf format topology script)

abbrev pub IsEdgeCut : List ℕ → List ℕ → Option (List ℕ) → Option (List ℕ) → EmulateError → Type 0
IsEdgeCut topology script = IsCutText (IsEdgeTraceOf topology script)
