use Rattle.std.proofs.Common.{arith}
use Rattle.line_wave.proofs.Sparse.{kept_sparse}
use Rattle.line_wave.proofs.pulses.Pulses.new.Goals as goal

pub invariant_of-pulses : goal.invariant_of-pulses
invariant_of-pulses c = (
  omega arith,
  kept_sparse c.args.stretches.now c.loop-stretch.pulses-inside.stretches.items c.loop-stretch.before c.loop-stretch.stretch-index
      c.loop-stretch-test.false c.if-stretches-gt-MOST_PULSES.false c.loop-stretch.invariant.kept c.loop-stretch.invariant.fault,
)
