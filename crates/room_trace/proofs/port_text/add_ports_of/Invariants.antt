use Rattle.std.proofs.Common.{take}
use Rattle.std.specs.List.{flat_map, range_with_len}
use Rattle.edid_tree.specs.Tree.{ports_of}
use Rattle.text_core.specs.Adds.{Adds}
use Rattle.room_trace.specs.PortText.{port_text}
use Rattle.room_trace.proofs.port_text.add_ports_of.Given as goal

-- the texts of the ports so far are added
abbrev pub invariant-loop-port : goal.invariant-loop-port
invariant-loop-port g l = Adds l.fn.out l.out (flat_map (port_text l.form l.at l.root l.tree l.device) (take l.port (range_with_len 1 (ports_of l.tree l.device))))
