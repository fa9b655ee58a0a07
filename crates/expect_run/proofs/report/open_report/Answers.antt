use Rattle.std.proofs.Common.{map}
use Rattle.expect_judge.specs.Told.{told_as}
use Rattle.expect_run.specs.Report.{report_as}
use Rattle.expect_run.proofs.Found.{tests_are}
use Rattle.expect_run.proofs.report.open_report.Goals as goal

pub returns : goal.returns
returns c =
    tests_are c.args.form c.args.script.now c.in_ok-labels.labels.script.now (told_as c.args.told.now) (map (λ state. state.items) c.args.states.now) (map (λ text. text.items) c.args.texts.now) c.in_ok-found.found.items c.deref.result.now
    (report_as c.in_ok-draft.draft) c.in_ok-labels.ensures c.in_ok-found.ensures c.deref.ensures.value c.in_ok-draft.ensures
