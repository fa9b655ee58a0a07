use Rattle.std.proofs.Common.{◌≡◌, get_or}
use Rattle.std.proofs.lemmas.List.{get_or_default}
use Rattle.text_core.proofs.Adding.{more}
use Rattle.line_wave.specs.declared.Stretch.{Stretch}
use Rattle.live_session.specs.Edges.{stretch_reported}
use Rattle.live_session.proofs.edges.add_stretches.Goals as goal

pub loop-stretch-preserved : goal.loop-stretch-preserved
loop-stretch-preserved g c =
    let none : Stretch = record { from = 0; to = 0 } in
    let s : Stretch = get_or c.args.stretches.now c.loop-stretch.stretch-index none in
    let item : get_or c.args.stretches.now c.loop-stretch.stretch-index s ≡ s = get_or_default c.args.stretches.now c.loop-stretch.stretch-index s none c.loop-stretch-test.true in
    more (stretch_reported c.args.form c.args.span) c.args.stretches.now c.loop-stretch.stretch-index s _ _ _ c.loop-stretch-test.true item c.loop-stretch.invariant c.add_stretch.ensures
