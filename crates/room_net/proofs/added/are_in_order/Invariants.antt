use Rattle.std.proofs.Common.{◌≡◌, ◌++◌, ◌∷◌, [], drop}
use Rattle.line_wave.specs.Pulls.{are_timely_from}
use Rattle.room_net.proofs.added.are_in_order.Given as goal

-- what is left decides
abbrev pub invariant-loop-stretch : goal.invariant-loop-stretch
invariant-loop-stretch l = are_timely_from l.free (drop l.stretch-index l.known ++ l.pull ∷ []) ≡ are_timely_from 0 (l.known ++ l.pull ∷ [])
