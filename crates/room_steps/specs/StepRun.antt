-- Commands taken one after another, and the steps that the texts of a topology, a script and commands give (own).
use Rattle.std.specs.Prelude.{◌≡◌, ℕ, ◌<◌, ◌⊎◌, Bool, false, List, [], ◌∷◌, ◌++◌, codes, Option, Result, Ok, Err}
use Rattle.room_script.specs.Topology.{Plan}
use Rattle.room_script.specs.Script.{Course}
use Rattle.room_net.specs.State.{first_net}
use Rattle.text_core.specs.declared.sink.WriteFault.{WriteFault}
use Rattle.edid_core.specs.declared.edid.Edid.{Edid as EdidValue}
use Rattle.text_core.specs.Cut.{CutOff, WrittenText}
use Rattle.room_run.specs.Emulate.{IsAccepted, IsReported, is_write as is_run_write}
use Rattle.edid_core.specs.Root.{IsRoot}
use Rattle.room_run.specs.declared.emulate.EmulateError.TheVariants as faults
use Rattle.room_step_text.specs.declared.commands.StepCommand.{StepCommand}
use Rattle.room_step_text.specs.declared.commands.StepCommand.TheVariants.{Edge, Round, Until, Show}
use Rattle.room_steps.specs.declared.step_run.StepRunError.{StepRunError}
use Rattle.room_steps.specs.declared.step_run.StepRunError.TheVariants.{Run, Steps as StepsLine}
use Rattle.room_step_text.specs.Commands.{commands_of}
use Rattle.record_core.specs.Cells.{line_only}
use Rattle.record_core.specs.Records.{record_text}
use Rattle.record_core.specs.Values.{text as text_cell}
use Rattle.record_core.specs.declared.cell.Form.{Form}
use Rattle.room_steps.specs.Steps.{Steps, IsEdgeStep, IsNever, IsNoEdge, IsOver, IsRound, IsShown, IsUntil, begun_at}

-- ---- one command

-- the step that a command asks for
abbrev pub IsStep : StepCommand → Steps → List ℕ → Steps → Type 0
IsStep Edge s = IsEdgeStep s
IsStep Round s = IsRound s
IsStep (Until at) s = IsUntil s at
IsStep (Show device) s = IsShown s device

-- the run has no such step any more
abbrev pub IsNoStep : StepCommand → Steps → Type 0
IsNoStep Edge s = IsNoEdge s
IsNoStep Round s = IsOver s.run.end s.last
IsNoStep (Until at) s = IsNever s at
IsNoStep (Show device) s = ⊥

-- that, as a line or as its object
abbrev pub ended_text : Form → List ℕ
ended_text form = record_text form (codes "ended") (line_only [] (text_cell (codes "ended")) ∷ [])

-- The text that is due of a command, and where the stepper then stands: those of the step, or `ended` where there is no such
-- step, and the stepper stands where it stood.
abbrev pub IsDue : StepCommand → Steps → List ℕ → Steps → Type 0
IsDue command s text t = IsStep command s text t ⊎ (IsNoStep command s × (text ≡ ended_text s.run.form) × (t ≡ s))

-- what a command has written of its text
abbrev pub IsCommandTaken : StepCommand → Steps → Steps → Option (List ℕ) → Option (List ℕ) → Bool → Bool → Result ℕ WriteFault → Type 0
IsCommandTaken command s t old new was is (Ok reported) = (text : List ℕ) × IsDue command s text t × WrittenText old new was is text (Ok reported)
IsCommandTaken command s t old new was is (Err fault) = (text : List ℕ) × (after : Steps) × IsDue command s text after × WrittenText old new was is text (Err fault)

-- a command names a device below the count
abbrev pub NamesDevice : ℕ → StepCommand → Type 0
NamesDevice count (Show device) = device < count
NamesDevice count Edge = Unit {0}
NamesDevice count Round = Unit {0}
NamesDevice count (Until at) = Unit {0}

-- ---- one command after another

-- the texts of commands, each from where the one before left the stepper
abbrev pub AreDue : List StepCommand → Steps → List ℕ → Steps → Type 0
AreDue [] s text t = (text ≡ []) × (t ≡ s)
AreDue (command ∷ commands) s text t =
    (mid : Steps) × (first : List ℕ) × (rest : List ℕ) × IsDue command s first mid × AreDue commands mid rest t × (text ≡ first ++ rest)

-- the text of the first of these commands was cut off by a fault
pub record AreCut (commands : List StepCommand) (s : Steps) (old new : Option (List ℕ)) (fault : WriteFault) : Type 0 where
  pub front : List StepCommand
  pub left : List StepCommand
  pub text : List ℕ
  pub last : Steps
  pub split : commands ≡ front ++ left
  pub due : AreDue front s text last
  pub cut : CutOff old new text fault

-- ---- the steps of texts

-- the texts spell these commands, to be taken from the start of this run, whose lines have this form
pub record AreSteps (form : Form) (topology script steps : List ℕ) (commands : List StepCommand) (s : Steps) : Type 0 where
  pub plan : Plan
  pub course : Course
  pub edid : Option EdidValue
  pub accepted : IsAccepted topology script plan course
  pub root : IsRoot plan.edid edid
  pub commands_are : commands_of plan.tree steps ≡ Ok commands
  pub starts : s ≡ begun_at form edid course (first_net plan.tree course.pulses)

-- the whole text that is due
pub record AreStepsOf (form : Form) (topology script steps text : List ℕ) : Type 0 where
  pub commands : List StepCommand
  pub first : Steps
  pub last : Steps
  pub spelled : AreSteps form topology script steps commands first
  pub due : AreDue commands first text last

-- when each refusal comes: those of the run, and then the first line of the steps at fault, with its word
abbrev pub AreRefused : List ℕ → List ℕ → List ℕ → StepRunError → Type 0
AreRefused topology script steps (Run error) = IsReported topology script error
AreRefused topology script steps (StepsLine line word) =
    (plan : Plan) × (course : Course) × IsAccepted topology script plan course × (edid : Option EdidValue) × IsRoot plan.edid edid
    × (commands_of plan.tree steps ≡ Err (record { line = line; word = word }))

abbrev pub is_write : Result (Unit {0}) StepRunError → Bool
is_write (Ok done) = false
is_write (Err (StepsLine line word)) = false
is_write (Err (Run error)) = is_run_write (Err error)

-- after a failed write the front of the text due was written, as much as is told
abbrev pub AreStepsCut : Form → List ℕ → List ℕ → List ℕ → Option (List ℕ) → Option (List ℕ) → ℕ → Type 0
AreStepsCut form topology script steps old new count =
    (commands : List StepCommand) × (s : Steps) × AreSteps form topology script steps commands s × AreCut commands s old new (record { count = count })

-- what a refusal has written
abbrev pub IsCutBy : Form → List ℕ → List ℕ → List ℕ → Option (List ℕ) → Option (List ℕ) → StepRunError → Type 0
IsCutBy form topology script steps old new (StepsLine line word) = new ≡ old
IsCutBy form topology script steps old new (Run (faults.Write count)) = AreStepsCut form topology script steps old new count
IsCutBy form topology script steps old new (Run (faults.Topology line cause word)) = new ≡ old
IsCutBy form topology script steps old new (Run (faults.Script line cause word)) = new ≡ old
IsCutBy form topology script steps old new (Run (faults.Edid cause)) = new ≡ old
IsCutBy form topology script steps old new (Run faults.Memory) = new ≡ old
