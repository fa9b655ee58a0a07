use Rattle.std.proofs.Common.{arith, ◌∙◌, sym}
use Rattle.line_wave.proofs.Kept.{left_fit}
use Rattle.line_wave.proofs.pulses.Pulses.drop_until.Goals as goal

pub overflow_add-self : goal.overflow_add-self
overflow_add-self c =
    let few = c.self.invariant.1.few in
    let fit = left_fit c.self.inside.gone c.begun_by.result c.self.inside.stretches.items c.as_slice.result.now
    c.self.invariant.0 (c.self.view_is ∙ sym c.as_slice.ensures.pulses) c.begun_by.ensures.few in
    omega (arith, few, fit)

pub invariant_of-self : goal.invariant_of-self
invariant_of-self c = (
  left_fit c.self.inside.gone c.begun_by.result c.self.inside.stretches.items c.as_slice.result.now
      c.self.invariant.0 (c.self.view_is ∙ sym c.as_slice.ensures.pulses) c.begun_by.ensures.few,
  c.self.invariant.1,
)
