use Rattle.std.proofs.Common.{rules, ◌≡◌, Bool, false, slice_index_or}
use Rattle.record_core.specs.Cells.{verdict_text}
use Rattle.record_core.proofs.Plain.{more_as, none_as}
use Rattle.record_core.proofs.line.add_verdicts.Goals as goal

pub loop-holds-init : goal.loop-holds-init
loop-holds-init g c = none_as c.args.quoted c.args.out.now

pub loop-holds-preserved : goal.loop-holds-preserved
loop-holds-preserved g c =
    let item : Bool = slice_index_or c.args.verdicts.now c.loop-holds.holds-index false in
    let same : slice_index_or c.args.verdicts.now c.loop-holds.holds-index item ≡ item = search rules in
    more_as c.args.quoted verdict_text c.args.verdicts.now c.loop-holds.holds-index item _ _ _ c.loop-holds-test.true same c.loop-holds.invariant c.add_verdict.ensures
