use Rattle.std.proofs.Common.{rules, ◌≡◌, slice_index_or}
use Rattle.line_wave.specs.declared.Stretch.{Stretch}
use Rattle.message_lay.proofs.Checking.{more}
use Rattle.message_lay.specs.Text.{pull_record}
use Rattle.message_lay.proofs.lay.add_pulls.Goals as goal

pub pulls-preserved : goal.pulls-preserved
pulls-preserved g c =
    let item : Stretch = slice_index_or c.args.pulls.now c.pulls.pull-index (record { from = 0; to = 0 }) in
    let same : slice_index_or c.args.pulls.now c.pulls.pull-index item ≡ item = search rules in
    more (pull_record c.args.form) c.args.pulls.now c.pulls.pull-index item _ _ _ c.pulls-test.true same c.pulls.invariant c.add_pull.ensures
