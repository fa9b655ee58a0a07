use Rattle.std.proofs.Common.{◌<◌, length, sym, ◌∙◌, arith}
use Rattle.std.proofs.lemmas.Grind.{common_steps}
use Rattle.edid_cta.proofs.OneBlock.{none_after}
use Rattle.edid_cta.proofs.reading.read_blocks.Goals as goal

pub returns-in-None-clause-none : goal.returns-in-None-clause-none
returns-in-None-clause-none c =
    let test = c.loop-rest-test.true in
    let empty = c.is_empty.ensures in
    let some : 0 < length c.loop-rest.rest.now = grind (arith, common_steps) in
    λ bs e. none_after _ c.loop-rest.rest.now some c.in-None.ensures bs (e ∙ sym c.loop-rest.invariant.read)
