use Rattle.std.proofs.Common.{◌≡◌, drop}
use Rattle.line_wave.specs.Pulls.{are_timely_from}
use Rattle.line_wave.proofs.pulls.are_timely_from.Given as goal

-- what is left decides
abbrev pub invariant-loop-stretch : goal.invariant-loop-stretch
invariant-loop-stretch l = are_timely_from l.free (drop l.stretch-index l.stretches) ≡ are_timely_from l.from l.stretches
