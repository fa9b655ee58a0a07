use Rattle.std.proofs.Common.{◌≡◌, true, subst}
use Rattle.expect_sweep.specs.Sweep.{IsSweepCut, IsSweepReported}
use Rattle.program_calls.specs.Tests.{WritesPassed, WritesTest}
use Rattle.program_calls.proofs.ShownLemmas.{on_ok}
use Rattle.program_calls.proofs.TestLemmas.{reported, swept}
use Rattle.cli_choice.specs.declared.choice.TestView.TheVariants.{Report}
use Rattle.program_calls.proofs.expectations.write_tests.Goals as goal

pub returns-in-Ok : goal.returns-in-Ok
returns-in-Ok g c =
    on_ok c.held_throughout.result (c.in-Ok.holds ≡ true) (WritesTest c.args.form Report c.args.topology.now c.args.script.now (g.W.Sink.contents c.args.out.now) (g.W.Sink.contents c.sweep.new.out))
    (swept c.args.form c.args.topology.now c.args.script.now (g.W.Sink.contents c.args.out.now) (g.W.Sink.contents c.sweep.new.out) c.in-Ok.holds c.in-Ok.ensures.ok)
    c.held_throughout.ensures

pub returns-in-NoRange : goal.returns-in-NoRange
returns-in-NoRange g c =
    let old = g.W.Sink.contents c.args.out.now in
    let middle = g.W.Sink.contents c.sweep.new.out in
    let new = g.W.Sink.contents c.write_report.new.out in
    on_ok c.write_report.result (WritesPassed c.args.form c.args.topology.now c.args.script.now middle new) (WritesTest c.args.form Report c.args.topology.now c.args.script.now old new)
    (reported c.args.form c.args.topology.now c.args.script.now old middle new
    (subst (λ e. IsSweepReported c.args.topology.now c.args.script.now e) c.in-NoRange.is c.in-Err.ensures.reported)
    (subst (λ e. IsSweepCut c.args.form c.args.topology.now c.args.script.now old middle e) c.in-NoRange.is c.in-Err.ensures.cut))
    c.write_report.ensures
