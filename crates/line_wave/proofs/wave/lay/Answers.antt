use Rattle.line_wave.proofs.Lays.{laid_wave}
use Rattle.line_wave.proofs.wave.lay.Goals as goal

pub invariant_of-result : goal.invariant_of-result
invariant_of-result c =
    laid_wave c.args.start c.loop-bit.fall c.loop-bit.bit-index c.args.bits.now c.loop-bit.stretches.items c.loop-bit-test.false c.loop-bit.invariant.laid
