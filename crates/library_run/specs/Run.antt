-- What is answered of a run (this profile's own).
use Rattle.std.specs.Prelude.{◌≡◌, ℕ, List}
use Rattle.room_script.specs.declared.script.ScriptCause.{ScriptCause}
use Rattle.room_script.specs.declared.script.ScriptCause.TheVariants as scripts
use Rattle.room_script.specs.declared.topology.TopologyCause.{TopologyCause}
use Rattle.room_script.specs.declared.topology.TopologyCause.TheVariants as topologies
use Rattle.room_run.specs.Emulate.{IsEdgeTraceOf, IsReported, IsTraceOf}
use Rattle.room_run.specs.declared.emulate.EmulateError.{EmulateError}
use Rattle.room_run.specs.declared.emulate.EmulateError.TheVariants as runs
use Rattle.room_run.specs.declared.run.Totals.{Totals}
use Rattle.edid_core.specs.declared.root.EdidCause.{EdidCause}
use Rattle.edid_core.specs.declared.root.EdidCause.TheVariants as roots
use Rattle.library_answers.specs.Faults.{edid_code, text_code}
use Rattle.library_answers.specs.Room.{IsPut, refusal}
use Rattle.library_answers.specs.declared.answer.Answer.{Answer}
use Rattle.library_answers.specs.declared.code.Code.{Code}
use Rattle.library_answers.specs.declared.code.Code.TheVariants.{EdidNoHdmiBlock, Memory, TopologyWord, TopologyNumber, TopologyName, TopologyFull, TopologySecondRoot, TopologyNoRoot, TopologyPortRange, TopologyPortTaken, TopologyNotLoose, TopologyLoop, TopologyHex, ScriptWord, ScriptNumber, ScriptName, ScriptWidth, ScriptOrder, ScriptClose, ScriptTooMany, ScriptEnd, ScriptHex}

abbrev pub topology_code : TopologyCause → Code
topology_code topologies.Word = TopologyWord
topology_code topologies.Number = TopologyNumber
topology_code topologies.Name = TopologyName
topology_code topologies.Full = TopologyFull
topology_code topologies.SecondRoot = TopologySecondRoot
topology_code topologies.NoRoot = TopologyNoRoot
topology_code topologies.PortRange = TopologyPortRange
topology_code topologies.PortTaken = TopologyPortTaken
topology_code topologies.NotLoose = TopologyNotLoose
topology_code topologies.Loop = TopologyLoop
topology_code topologies.Hex = TopologyHex

abbrev pub script_code : ScriptCause → Code
script_code scripts.Word = ScriptWord
script_code scripts.Number = ScriptNumber
script_code scripts.Name = ScriptName
script_code (scripts.Frame cause) = text_code cause
script_code scripts.Hex = ScriptHex
script_code scripts.Width = ScriptWidth
script_code scripts.Order = ScriptOrder
script_code scripts.Close = ScriptClose
script_code scripts.TooMany = ScriptTooMany
script_code scripts.End = ScriptEnd

abbrev pub root_code : EdidCause → Code
root_code (roots.Edid cause) = edid_code cause
root_code roots.NoHdmiBlock = EdidNoHdmiBlock

-- a write into memory fails where memory runs out
abbrev pub run_answer : EmulateError → Answer
run_answer (runs.Topology line cause word) = refusal (topology_code cause) line
run_answer (runs.Script line cause word) = refusal (script_code cause) line
run_answer (runs.Edid cause) = refusal (root_code cause) 0
run_answer (runs.Write count) = refusal Memory 0
run_answer runs.Memory = refusal Memory 0

-- the trace of the run that the two texts spell is put into the room
abbrev pub IsTracePut : List ℕ → List ℕ → List ℕ → List ℕ → Answer → Type 0
IsTracePut topology script old new answer = (text : List ℕ) × (totals : Totals) × IsTraceOf topology script text totals × IsPut text old new answer

-- and its edge file
abbrev pub IsEdgesPut : List ℕ → List ℕ → List ℕ → List ℕ → Answer → Type 0
IsEdgesPut topology script old new answer = (text : List ℕ) × (totals : Totals) × IsEdgeTraceOf topology script text totals × IsPut text old new answer

-- there is no run, for the first cause, and nothing is put
abbrev pub IsRunRefused : List ℕ → List ℕ → List ℕ → List ℕ → Answer → Type 0
IsRunRefused topology script old new answer = (cause : EmulateError) × IsReported topology script cause × (answer ≡ run_answer cause) × (new ≡ old)
