use Rattle.std.proofs.Common.{◌≡◌, ◌++◌, drop}
use Rattle.std.specs.Option.{option_to_list}
use Rattle.capture_smooth.specs.Smooth.{smooth_edges}
use Rattle.capture_smooth.proofs.smoothing.smooth_edges.Given as goal

-- what is left of the edges so far, and of the one that is held with those that follow
abbrev pub invariant-loop-edge : goal.invariant-loop-edge
invariant-loop-edge l = smooth_edges l.shortest l.edges ≡ l.kept.items ++ smooth_edges l.shortest (option_to_list l.held ++ drop l.edge-index l.edges)
