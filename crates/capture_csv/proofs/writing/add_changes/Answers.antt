use Rattle.std.proofs.Common.{◌≡◌, get_or}
use Rattle.std.proofs.lemmas.List.{get_or_default}
use Rattle.line_wave.specs.declared.Stretch.{Stretch}
use Rattle.text_core.proofs.Adding.{more}
use Rattle.capture_csv.specs.Text.{stretch_text}
use Rattle.capture_csv.proofs.writing.add_changes.Goals as goal

pub loop-stretch-preserved : goal.loop-stretch-preserved
loop-stretch-preserved g c =
    let none : Stretch = record { from = 0; to = 0 } in
    let s : Stretch = get_or c.args.stretches.now c.loop-stretch.stretch-index none in
    let item : get_or c.args.stretches.now c.loop-stretch.stretch-index s ≡ s = get_or_default c.args.stretches.now c.loop-stretch.stretch-index s none c.loop-stretch-test.true in
    more stretch_text c.args.stretches.now c.loop-stretch.stretch-index s _ _ _ c.loop-stretch-test.true item c.loop-stretch.invariant c.add_stretch.ensures
