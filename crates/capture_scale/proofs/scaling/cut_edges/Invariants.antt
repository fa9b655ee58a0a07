use Rattle.std.proofs.Common.{◌≡◌, ◌++◌, drop, map}
use Rattle.capture_scale.specs.Scaled.{cut_edge}
use Rattle.capture_scale.proofs.scaling.cut_edges.Given as goal

-- what is scaled, with what is left to scale
abbrev pub invariant-loop-edge : goal.invariant-loop-edge
invariant-loop-edge l = map (cut_edge l.factor) l.edges ≡ l.kept.items ++ map (cut_edge l.factor) (drop l.edge-index l.edges)
