-- Texts of topologies (own): lines of the forms of room_lines, and what they mean in a plan. Of the causes that apply to a line
-- it has the first in the order of `TopologyCause`.
use Rattle.std.specs.Prelude.{◌≡◌, ℕ, ◌+◌, ◌==◌, ◌||◌, not, codes, length, List, [], ◌∷◌, if◌then◌else◌, Option, Some, None, is_some, option_map, Result, Ok, Err}
use Rattle.std.specs.Result.{result_ok}
use Rattle.hex.specs.Hex.{decode_of}
use Rattle.text_core.specs.declared.kind.Kind.{Kind}
use Rattle.edid_tree.specs.Name.{is_name}
use Rattle.edid_tree.specs.Node.{Node}
use Rattle.edid_tree.specs.Tree.{device_named, has_root, add_fault, tree_with_device, plug_fault, tree_with_plug}
use Rattle.edid_tree.specs.declared.plug.AddError.{AddError}
use Rattle.edid_tree.specs.declared.plug.AddError.TheVariants as adding
use Rattle.edid_tree.specs.declared.plug.PlugError.{PlugError}
use Rattle.edid_tree.specs.declared.plug.PlugError.TheVariants as plugging
use Rattle.text_core.specs.Lines.{lines_of, is_skipped}
use Rattle.text_core.specs.Words.{words_of}
use Rattle.text_forms.specs.Forms.{Meaning, Said, kind_at, line_of, port_at, ports_at, text_at}
use Rattle.text_forms.specs.declared.form.LineCause.{LineCause}
use Rattle.text_forms.specs.declared.form.LineCause.TheVariants as causes
use Rattle.room_lines.specs.Topology.{topology_rows}
use Rattle.room_lines.specs.declared.topology.TopologyVerb.{TopologyVerb}
use Rattle.room_lines.specs.declared.topology.TopologyVerb.TheVariants.{Device, Plug, Edid}
use Rattle.room_script.specs.declared.topology.Topology.{Topology}
use Rattle.room_script.specs.declared.topology.TopologyCause.{TopologyCause}
use Rattle.room_script.specs.declared.topology.TopologyCause.TheVariants.{Word, Number, Name, Full, SecondRoot, NoRoot, PortRange, PortTaken, NotLoose, Loop, Hex}
use Rattle.room_script.specs.declared.topology.TopologyError.{TopologyError}
use Rattle.room_script.specs.declared.topology.TopologyError.TheVariants as errors
use Rattle.text_core.specs.At.{at_line, at_word}
use Rattle.text_core.specs.declared.at.At.{At}
use Rattle.text_core.specs.declared.at.AtWord.{AtWord}
use Rattle.room_script.specs.declared.topology.TopologyLineError.{TopologyLineError}
use Rattle.room_script.specs.declared.topology.TopologyLineError.TheVariants.{Fault, Memory}

-- a topology without where it lies in memory
pub record Plan : Type 0 where
  pub tree : List Node
  pub edid : Option (List ℕ)

abbrev pub plan_of : Topology → Plan
plan_of t = record { tree = t.tree; edid = option_map (λ bytes. bytes.items) t.edid }

-- the words by which a refused line is reported
abbrev pub topology_cause : TopologyCause → List ℕ
topology_cause Word = codes "word"
topology_cause Number = codes "number"
topology_cause Name = codes "name"
topology_cause Full = codes "full"
topology_cause SecondRoot = codes "second-root"
topology_cause NoRoot = codes "no-root"
topology_cause PortRange = codes "port-range"
topology_cause PortTaken = codes "port-taken"
topology_cause NotLoose = codes "not-loose"
topology_cause Loop = codes "loop"
topology_cause Hex = codes "hex"

-- the faults that a tree's refusals give
abbrev pub add_fault_of : AddError → AtWord TopologyCause
add_fault_of adding.Full = at_word 0 Full
add_fault_of adding.Name = at_word 1 Name
add_fault_of adding.SecondRoot = at_word 2 SecondRoot

abbrev pub plug_fault_of : PlugError → AtWord TopologyCause
plug_fault_of plugging.PortRange = at_word 3 PortRange
plug_fault_of plugging.PortTaken = at_word 3 PortTaken
plug_fault_of plugging.NotLoose = at_word 1 NotLoose
plug_fault_of plugging.Loop = at_word 2 Loop

abbrev pub unless_add : Option AddError → Plan → Result Plan (AtWord TopologyCause)
unless_add None plan = Ok plan
unless_add (Some error) plan = Err (add_fault_of error)

abbrev pub unless_plug : Option PlugError → Plan → Result Plan (AtWord TopologyCause)
unless_plug None plan = Ok plan
unless_plug (Some error) plan = Err (plug_fault_of error)

-- a device, of a name that is one and is not taken
abbrev pub device_checked : Plan → List ℕ → Kind → ℕ → Result Plan (AtWord TopologyCause)
device_checked plan name kind ports =
    if not (is_name name) || is_some (device_named plan.tree name) then Err (at_word 1 Name)
    else unless_add (add_fault 15 plan.tree name kind) (record plan { tree = tree_with_device plan.tree name kind ports })

-- a plug, of a child and a parent that are declared
abbrev pub plug_checked : Plan → Option ℕ → Option ℕ → ℕ → Result Plan (AtWord TopologyCause)
plug_checked plan None parent port = Err (at_word 1 Name)
plug_checked plan (Some child) None port = Err (at_word 2 Name)
plug_checked plan (Some child) (Some parent) port =
    unless_plug (plug_fault plan.tree child parent port) (record plan { tree = tree_with_plug plan.tree child parent port })

-- the bytes that pairs of hex digits of either case spell, at least one
abbrev pub bytes_of : List ℕ → Option (List ℕ)
bytes_of word = if length word == 0 then None else result_ok (decode_of word)

abbrev pub edid_read : Plan → Option (List ℕ) → Result Plan (AtWord TopologyCause)
edid_read plan None = Err (at_word 1 Hex)
edid_read plan (Some bytes) = Ok (record plan { edid = Some bytes })

-- an EDID, at most once
abbrev pub edid_checked : Plan → List ℕ → Result Plan (AtWord TopologyCause)
edid_checked plan hex = if is_some plan.edid then Err (at_word 0 Word) else edid_read plan (bytes_of hex)

-- what the values of a form mean in a plan: a cause that needs what stands above comes after those of the words themselves
abbrev pub checked : Plan → TopologyVerb → List Meaning → Result Plan (AtWord TopologyCause)
checked plan Device values = device_checked plan (text_at values 1) (kind_at values 2) (ports_at values 3)
checked plan Plug values = plug_checked plan (device_named plan.tree (text_at values 1)) (device_named plan.tree (text_at values 2)) (port_at values 3)
checked plan Edid values = edid_checked plan (text_at values 1)

abbrev pub cause_as : LineCause → TopologyCause
cause_as causes.Word = Word
cause_as causes.Number = Number

abbrev pub fault_as : AtWord LineCause → AtWord TopologyCause
fault_as fault = at_word fault.word (cause_as fault.cause)

abbrev pub checked_in : Plan → Said TopologyVerb → Result Plan (AtWord TopologyCause)
checked_in plan (Err fault) = Err (fault_as fault)
checked_in plan (Ok read) = checked plan read.0 read.1

-- a line, by the table of forms
abbrev pub line_read : Plan → List ℕ → Result Plan (AtWord TopologyCause)
line_read plan line = if is_skipped line then Ok plan else checked_in plan (line_of topology_rows (words_of line))

abbrev pub after_line : ℕ → Result Plan (AtWord TopologyCause) → (Plan → Result Plan (At TopologyCause)) → Result Plan (At TopologyCause)
after_line line (Ok plan) onward = onward plan
after_line line (Err fault) onward = Err (at_line line fault)

-- lines from this number on; after the last one a television is there
abbrev pub lines_read : List (List ℕ) → ℕ → Plan → Result Plan (At TopologyCause)
lines_read [] number plan = if has_root plan.tree then Ok plan else Err (at_line number (at_word 0 NoRoot))
lines_read (line ∷ lines) number plan = after_line number (line_read plan line) (λ next. lines_read lines (number + 1) next)

-- the topology of a text, or its first fault
abbrev pub topology_of : List ℕ → Result Plan (At TopologyCause)
topology_of text = lines_read (lines_of text) 1 (record { tree = []; edid = None })

-- what is answered is what the text says, unless memory ran out
abbrev pub GivesTopology : Result Topology TopologyError → Result Plan (At TopologyCause) → Type 0
GivesTopology (Ok topology) read = read ≡ Ok (plan_of topology)
GivesTopology (Err errors.Memory) read = Unit {0}
GivesTopology (Err (errors.At fault)) read = read ≡ Err fault

-- what a line made of the topology is what the line says, unless memory ran out
abbrev pub GivesLine : Plan → Result Unit TopologyLineError → Result Plan (AtWord TopologyCause) → Type 0
GivesLine plan (Ok done) read = read ≡ Ok plan
GivesLine plan (Err Memory) read = Unit {0}
GivesLine plan (Err (Fault fault)) read = read ≡ Err fault

abbrev pub error_at : ℕ → TopologyLineError → TopologyError
error_at line Memory = errors.Memory
error_at line (Fault fault) = errors.At (at_line line fault)
