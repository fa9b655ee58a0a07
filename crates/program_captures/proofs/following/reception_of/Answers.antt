use Rattle.std.proofs.Common.{ap, ◌∙◌}
use Rattle.line_reading.specs.Windows.{wider}
use Rattle.line_reading.specs.declared.times.Windows.{Windows}
use Rattle.follow_core.specs.declared.reception.Reception.{Reception}
use Rattle.program_captures.proofs.following.reception_of.Goals as goal

pub returns-clause-same : goal.returns-clause-same
returns-clause-same c =
    ap (λ (w : Windows). let r : Reception = record { windows = w; inverted = c.args.choice.inverted; glitch = c.args.choice.glitch } in r) (c.wider.ensures.wider ∙ ap wider c.within_most.ensures.same)
