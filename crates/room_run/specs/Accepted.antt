-- What the texts of a topology and a script have that are accepted (own).
use Rattle.std.specs.Prelude.{◌≡◌, ℕ, ◌<◌, ◌≤◌, List, length, Option, IsSome, Ok, All}
use Rattle.std.specs.Option.{ForSome}
use Rattle.line_wave.specs.Bounds.{latest_event, latest_instant}
use Rattle.line_wave.specs.declared.Stretch.{Stretch}
use Rattle.edid_core.specs.declared.edid.Edid.{Edid}
use Rattle.edid_core.specs.Address.{edid_address}
use Rattle.edid_core.specs.Root.{HasAddress, IsRoot}
use Rattle.room_script.specs.Topology.{Plan, topology_of}
use Rattle.room_script.specs.Script.{Course, IsNoWider, IsScriptRead}
use Rattle.room_net.specs.Sound.{EndsEarly}
use Rattle.room_net.specs.State.{first_net}
use Rattle.room_run.specs.declared.run.Totals.{Totals}
use Rattle.room_run.specs.Run.{start, IsTrace}
use Rattle.room_run.specs.Emulate.{IsTraceOf}

-- times within the limit of scripts are within that of runs,
abbrev pub ScriptsBeginEarly : Type 0
ScriptsBeginEarly = (pulses : List Stretch) → All (λ p. p.from ≤ latest_event) pulses → All (λ p. p.from ≤ latest_instant) pulses

-- the pulses and pulls of a script end by the latest instant,
abbrev pub ScriptsEndEarly : Type 0
ScriptsEndEarly = (pulses : List Stretch) → All (λ p. p.from ≤ latest_event) pulses → All IsNoWider pulses → All EndsEarly pulses

-- a topology has a device,
abbrev pub TopologiesHaveDevices : Type 0
TopologiesHaveDevices = (text : List ℕ) (plan : Plan) → topology_of text ≡ Ok plan → 0 < length plan.tree

-- and texts spell one topology, one EDID and one script
abbrev pub TextsAreOfOneRun : Type 0
TextsAreOfOneRun = (topology script text : List ℕ) (totals : Totals) (plan : Plan) (course : Course) (edid : Option Edid) → topology_of topology ≡ Ok plan → IsScriptRead plan.tree script (Ok course)
    → IsRoot plan.edid edid → IsTraceOf topology script text totals → IsTrace edid course.end (start (first_net plan.tree course.pulses) course.events) text totals

-- the EDID that ports pass on, where it is given, has an address
abbrev pub AddressesAreThere : Type 0
AddressesAreThere = (e : Option Edid) → HasAddress e → ForSome e (λ root. IsSome (edid_address root))

abbrev pub AddressedEach : Type 0
AddressedEach = (e : Option Edid) → ForSome e (λ root. IsSome (edid_address root)) → HasAddress e
