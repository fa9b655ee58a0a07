-- The names of devices and of a topology (own).
use Rattle.std.specs.Prelude.{◌≡◌, ℕ, true, List, Option, Ok, All}
use Rattle.line_wave.specs.declared.Stretch.{Stretch}
use Rattle.edid_tree.specs.Node.{Node}
use Rattle.device_core.specs.State.{State, with_queued}
use Rattle.device_core.specs.Place.{reported_by}
use Rattle.room_net.specs.State.{each_from, first_net, moved_by}
use Rattle.room_script.specs.Topology.{Plan, topology_of}
use Rattle.room_driven.specs.Driven.{names_of}
use Rattle.capture_laws.specs.WireDumps.{is_word}
use Rattle.capture_laws.specs.Dumps.{names_in}

-- a device keeps its name, whatever it queues
abbrev pub QueueingKeepsNames : Type 0
QueueingKeepsNames = (limit at from to : ℕ) (bytes : List ℕ) (d : State) → (with_queued limit at from to bytes d).name ≡ d.name

-- and whatever it reports
abbrev pub ReportsKeepNames : Type 0
ReportsKeepNames = (limit at : ℕ) (units : List (Option ℕ)) (d : State) → (reported_by limit at units d).name ≡ d.name

-- and so do all devices, as they come onto the wire and leave it
abbrev pub MovesKeepNames : Type 0
MovesKeepNames = (n at : ℕ) (tree : List Node) (ds : List State) → names_of (each_from n (moved_by at tree) ds) ≡ names_of ds

-- the names of a run's devices are those of its topology
abbrev pub NamesStart : Type 0
NamesStart = (tree : List Node) (pulses : List Stretch) → names_of (first_net tree pulses).devices ≡ names_in tree

-- and each of these is one word
abbrev pub NamesAreWords : Type 0
NamesAreWords = (topology : List ℕ) (plan : Plan) → topology_of topology ≡ Ok plan → All (λ name. is_word name ≡ true) (names_in plan.tree)
