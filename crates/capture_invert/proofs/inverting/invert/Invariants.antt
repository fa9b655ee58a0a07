use Rattle.std.proofs.Common.{◌≡◌, ◌++◌, drop, map}
use Rattle.capture_invert.specs.Inverted.{inverted_edges, turned}
use Rattle.capture_invert.proofs.inverting.invert.Given as goal

-- what is turned, with what is left to turn
abbrev pub invariant-loop-edge : goal.invariant-loop-edge
invariant-loop-edge l = inverted_edges l.capture.edges ≡ l.kept.items ++ map turned (drop l.edge-index l.rest)
