use Rattle.std.proofs.Common.{◌∙◌, sym}
use Rattle.line_wave.proofs.Kept.{begun-rest}
use Rattle.line_wave.proofs.pulls.begun_by.Goals as goal

pub returns-else-pulls-begun-clause-rest : goal.returns-else-pulls-begun-clause-rest
returns-else-pulls-begun-clause-rest c =
    sym (begun-rest c.args.instant c.args.pulls.now c.begun.begun c.begun-test.true c.requires c.if-pulls-begun.false)
    ∙ c.begun.invariant.rest
