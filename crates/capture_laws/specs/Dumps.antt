-- The dump of a run and of who drives its line says that the line is low exactly where somebody pulls it (own).
use Rattle.std.specs.Prelude.{◌≡◌, ℕ, ◌+◌, false, List, [], ◌∷◌, ◌++◌, drop, get_or, map, codes, Option, Some, Ok}
use Rattle.std.specs.List.{list_any}
use Rattle.line_wave.specs.Line.{line_of}
use Rattle.edid_core.specs.declared.edid.Edid.{Edid}
use Rattle.edid_tree.specs.Node.{Node}
use Rattle.capture_core.specs.Edges.{Captured}
use Rattle.room_script.specs.Script.{Course}
use Rattle.room_script.specs.Topology.{Plan}
use Rattle.room_net.specs.Line.{run_wave}
use Rattle.edid_core.specs.Root.{IsRoot}
use Rattle.capture_vcd.specs.Dump.{edges_in}
use Rattle.capture_vcd.specs.Wire.{Wire, wire_in, wire_line, words_in}
use Rattle.capture_wires.specs.Wires.{id_of}
use Rattle.capture_forms.specs.declared.form.CaptureForm.TheVariants.{Vcd}
use Rattle.room_run.specs.declared.run.Totals.{Totals}
use Rattle.room_run.specs.Emulate.{IsAccepted, IsLineOf}
use Rattle.room_driven.specs.Emulate.{IsDrivesOf}
use Rattle.capture_laws.specs.WireDumps.{Declared, declared_in, numbered_names, wire_at}
use Rattle.capture_laws.specs.Rounds.{Laid, drives, pulls, rounds_of}

-- the wires that a dump declares below its first one
abbrev pub below : List ℕ → List Declared
below text = drop 1 (declared_in (words_in text))

-- What a dump reports (IEEE 1364-2005, 18), by its words alone: its first wire is the line, and at every microsecond that is low if
-- and only if one of the wires below it is.
pub record ReportsDrives (names : List (List ℕ)) (rounds : List Laid) (text : List ℕ) : Type 0 where
  pub line : Wire
  pub first : wire_in [] (words_in text) ≡ Some line
  pub driven : (u : ℕ) → wire_line line u ≡ list_any (λ d. wire_line (record line { id = d.id }) u) (below text)
  -- They are a wire for the line, one for each device, and one for the pulses,
  pub declared : declared_in (words_in text) ≡ numbered_names 0 (codes "CEC" ∷ (names ++ codes "pulses" ∷ []))
  -- the first is the line of the whole run,
  pub line_is : (u : ℕ) → wire_line line u ≡ line_of (run_wave (map (λ r. r.outcome) rounds)) u
  -- and each of the others is low where its device, or the pulses, pull in some round.
  pub drives_are : (number u : ℕ) → wire_line (record line { id = id_of (number + 1) ∷ [] }) u ≡ list_any (λ r. line_of (wire_at number (drives r)) u) rounds
  -- That is where the device of that number pulls by the rule of a round, or where a pulse does.
  pub pulls_are : (number u : ℕ) → wire_line (record line { id = id_of (number + 1) ∷ [] }) u ≡ list_any (λ r. get_or (pulls r u) number false) rounds

-- the names of a topology's devices
abbrev pub names_in : List Node → List (List ℕ)
names_in tree = map (λ node. node.name) tree

-- A topology and a script that are accepted, with an EDID that is none or is read, have such a dump.
abbrev pub TextsHaveDrives : Type 0
TextsHaveDrives = (topology script : List ℕ) (plan : Plan) (course : Course) (edid : Option Edid) → IsAccepted topology script plan course → IsRoot plan.edid edid
    → (text : List ℕ) × (totals : Totals) × IsDrivesOf topology script text totals

-- And each of theirs reports the drives of their run.
abbrev pub DumpsReportDrives : Type 0
DumpsReportDrives = (topology script text : List ℕ) (totals : Totals) → (p : IsDrivesOf topology script text totals)
    → ReportsDrives (names_in p.plan.tree) (rounds_of topology script text totals p) text

-- Read by this program, as its first wire or by the line's name, the dump with drives is the same capture as that of the line alone.
abbrev pub DumpsAreReadAsLines : Type 0
DumpsAreReadAsLines = (topology script x y : List ℕ) (s t : Totals) → IsDrivesOf topology script x s → IsLineOf Vcd topology script y t
    → (c : Captured) × (edges_in [] y ≡ Ok c) × (edges_in [] x ≡ Ok c) × (edges_in (codes "CEC") x ≡ Ok c)
