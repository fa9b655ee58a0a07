use Rattle.std.proofs.Common.{◌∙◌}
use Rattle.program_edids.proofs.EdidLemmas.{passed_held}
use Rattle.program_edids.proofs.edid.passed_bytes.Goals as goal

pub returns : goal.returns
returns c =
    let given = passed_held c.args.passing c.args.bytes.now c.bytes.result.now _ _ c.in_ok-done.ensures c.new-held.ensures.contents c.bytes.ensures.contents in
    (given.0, given.1, c.in_ok-to_vec.ensures.items_if_clones_equal (λ x y e. e) ∙ given.2)
