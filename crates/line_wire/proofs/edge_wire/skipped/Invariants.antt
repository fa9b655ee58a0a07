use Rattle.std.proofs.Common.{◌≡◌, ◌<◌, take}
use Rattle.std.specs.List.{All}
use Rattle.line_wire.proofs.edge_wire.skipped.Given as goal

-- all so far begin before the round
abbrev pub invariant-loop-stretch : goal.invariant-loop-stretch
invariant-loop-stretch l = (l.skipped ≡ l.stretch-index) × All (λ p. p.from < l.start) (take l.stretch-index l.stretches)
