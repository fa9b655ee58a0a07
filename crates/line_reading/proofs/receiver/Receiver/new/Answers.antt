use Rattle.std.proofs.Common.{Bool, List, refl, ap, ◌∙◌}
use Rattle.line_reading.specs.declared.receiver.ReceiverState.TheVariants.{Rest}
use Rattle.line_reading.specs.Hears.{Hears}
use Rattle.line_reading.proofs.Following.{empty_kept}
use Rattle.line_reading.proofs.receiver.Receiver.new.Goals as goal

pub returns-clause-empty : goal.returns-clause-empty
returns-clause-empty c = λ t. record {
  keeps = ap (λ (bits : List Bool). let h : Hears = record { place = Rest; begin = 0; fall = 0; bits = bits } in h) c.new.ensures ∙ empty_kept t;
  level = (refl, refl);
}
