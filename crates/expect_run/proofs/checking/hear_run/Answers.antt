use Rattle.std.proofs.Common.{◌∙◌, refl}
use Rattle.expect_run.specs.Sifted.{sifted_as}
use Rattle.expect_run.proofs.Sifting.{begun_so, heard_so}
use Rattle.expect_run.proofs.checking.hear_run.Goals as goal

pub returns-clause-kept : goal.returns-clause-kept
returns-clause-kept c =
    heard_so sifted_as c.args.form c.args.all c.args.topology.now c.args.script.now c.new-told.result c.run_told.new.reporter c.in-Ok-run_told.field-0.value _
    (c.new-told.ensures ∙ begun_so c.args.form c.args.script.now c.in-Ok.needs.script.now c.args.all c.has_names.result c.in-Ok.ensures c.has_names.ensures)
    c.in-Ok-run_told.ensures.ok c.if-told-2.false refl
