use Rattle.std.proofs.Common.{take}
use Rattle.std.specs.List.{flat_map}
use Rattle.text_core.specs.Adds.{Adds}
use Rattle.program_captures.specs.Edges.{edge_line}
use Rattle.program_captures.proofs.edges.add_edges.Given as goal

-- the lines of the edges so far are added
abbrev pub invariant-loop-edge : goal.invariant-loop-edge
invariant-loop-edge g l = Adds l.fn.out l.out (flat_map edge_line (take l.edge-index l.edges))
