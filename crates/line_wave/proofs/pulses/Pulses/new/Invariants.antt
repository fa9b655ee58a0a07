use Rattle.std.proofs.Common.{◌≡◌, take, drop, None}
use Rattle.line_wave.specs.Pulses.{first_fault}
use Rattle.line_wave.proofs.pulses.Pulses.new.Given as goal

-- the first fault is one of what is left
abbrev pub invariant-loop-stretch : goal.invariant-loop-stretch
invariant-loop-stretch l = record {
  kept : l.pulses-inside.stretches.items ≡ take l.stretch-index l.stretches;
  none_gone : l.pulses-inside.gone ≡ 0;
  fault : first_fault l.before (drop l.stretch-index l.stretches) ≡ first_fault None l.stretches;
}
