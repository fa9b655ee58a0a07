use Rattle.std.proofs.Common.{◌≡◌, take}
use Rattle.line_rounds.specs.Round.{rest_of}
use Rattle.line_wire.proofs.edge_wire.rest.Given as goal

abbrev pub invariant-loop-stretch : goal.invariant-loop-stretch
invariant-loop-stretch l = l.rest ≡ rest_of l.until (take l.stretch-index l.wave)
