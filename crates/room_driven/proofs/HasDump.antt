-- Each run has a dump, with names and without, and it is that of the texts that spell the run.
use Rattle.std.proofs.Common.{ℕ, List, Option}
use Rattle.line_wave.specs.declared.Stretch.{Stretch}
use Rattle.line_wave.specs.Line.{IsWave}
use Rattle.edid_tree.specs.Node.{Node}
use Rattle.edid_core.specs.Root.{IsRoot}
use Rattle.edid_core.specs.declared.edid.Edid.{Edid}
use Rattle.room_script.specs.Topology.{Plan}
use Rattle.room_script.specs.Script.{Course}
use Rattle.room_script.specs.declared.script.TimedEvent.{TimedEvent}
use Rattle.room_net.specs.State.{first_net}
use Rattle.room_run.specs.declared.run.Totals.{Totals}
use Rattle.room_run.specs.Run.{start}
use Rattle.room_run.specs.Emulate.{IsAccepted}
use Rattle.room_driven.specs.Named.{IsDump}
use Rattle.room_driven.specs.Emulate.{IsDumpOf}
use Rattle.room_driven.specs.declared.wires.Wires.{Wires}
use Rattle.room_driven.specs.declared.wires.Wires.TheVariants.{Plain, Named}
use Rattle.room_driven.proofs.HasDrives.{runs_have_drives}
use Rattle.room_driven.proofs.Named.{runs_have_names}

pub runs_have_dumps : (wires : Wires) (tree : List Node) (pulses : List Stretch) (events : List TimedEvent) (end : ℕ) → IsWave pulses
    → (text : List ℕ) × (totals : Totals) × IsDump wires end (start (first_net tree pulses) events) text totals
runs_have_dumps Plain = runs_have_drives
runs_have_dumps Named = runs_have_names

pub dump_of_texts : (wires : Wires) (topology script text : List ℕ) (totals : Totals) (plan : Plan) (course : Course) (edid : Option Edid) → IsAccepted topology script plan course → IsRoot plan.edid edid
    → IsDump wires course.end (start (first_net plan.tree course.pulses) course.events) text totals → IsDumpOf wires topology script text totals
dump_of_texts Plain topology script text totals plan course edid accepted root dump =
    record { plan = plan; course = course; edid = edid; accepted = accepted; root = root; driven = dump }
dump_of_texts Named topology script text totals plan course edid accepted root dump =
    record { plan = plan; course = course; edid = edid; accepted = accepted; root = root; named = dump }
