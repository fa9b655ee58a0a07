use Rattle.std.proofs.Common.{rules, ◌≡◌, codes, ◌++◌, Bool, false, slice_index_or}
use Rattle.text_core.proofs.Adding.{more, nothing}
use Rattle.record_core.specs.Cells.{switch_json}
use Rattle.record_core.proofs.object.add_more_verdicts.Goals as goal

pub loop-holds-init : goal.loop-holds-init
loop-holds-init g c = nothing c.args.out.now

pub loop-holds-preserved : goal.loop-holds-preserved
loop-holds-preserved g c =
    let item : Bool = slice_index_or c.args.verdicts.now c.loop-holds.holds-index false in
    let same : slice_index_or c.args.verdicts.now c.loop-holds.holds-index item ≡ item = search rules in
    more (λ (y : Bool). codes "," ++ switch_json y) c.args.verdicts.now c.loop-holds.holds-index item _ _ _ c.loop-holds-test.true same c.loop-holds.invariant c.add_verdict.ensures
