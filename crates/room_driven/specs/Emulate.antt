-- What the texts of a topology and a script give.
use Rattle.std.specs.Prelude.{ℕ, List, Option}
use Rattle.room_script.specs.Topology.{Plan}
use Rattle.room_script.specs.Script.{Course}
use Rattle.edid_core.specs.Root.{IsRoot}
use Rattle.room_net.specs.State.{first_net}
use Rattle.edid_core.specs.declared.edid.Edid.{Edid}
use Rattle.room_run.specs.declared.emulate.EmulateError.{EmulateError}
use Rattle.room_run.specs.declared.run.Totals.{Totals}
use Rattle.room_run.specs.Run.{start}
use Rattle.room_run.specs.Emulate.{IsAccepted, IsCutText}
use Rattle.room_driven.specs.Driven.{IsDriven}
use Rattle.room_driven.specs.Named.{IsNamed}
use Rattle.room_driven.specs.declared.wires.Wires.{Wires}
use Rattle.room_driven.specs.declared.wires.Wires.TheVariants.{Plain, Named}

-- the line of the run that the texts spell, and who drives it
pub record IsDrivesOf (topology script text : List ℕ) (totals : Totals) : Type 0 where
  pub plan : Plan
  pub course : Course
  pub edid : Option Edid
  pub accepted : IsAccepted topology script plan course
  pub root : IsRoot plan.edid edid
  pub driven : IsDriven course.end (start (first_net plan.tree course.pulses) course.events) text totals

-- and with names
pub record IsNamedOf (topology script text : List ℕ) (totals : Totals) : Type 0 where
  pub plan : Plan
  pub course : Course
  pub edid : Option Edid
  pub accepted : IsAccepted topology script plan course
  pub root : IsRoot plan.edid edid
  pub named : IsNamed course.end (start (first_net plan.tree course.pulses) course.events) text totals

abbrev pub IsDumpOf : Wires → List ℕ → List ℕ → List ℕ → Totals → Type 0
IsDumpOf Plain = IsDrivesOf
IsDumpOf Named = IsNamedOf

-- what a refusal has written
abbrev pub IsDumpCut : Wires → List ℕ → List ℕ → Option (List ℕ) → Option (List ℕ) → EmulateError → Type 0
IsDumpCut wires topology script = IsCutText (IsDumpOf wires topology script)
