use Rattle.std.proofs.Common.{OnOk, subst, sym}
use Rattle.program_calls.specs.Tests.{WritesTest}
use Rattle.cli_choice.specs.declared.choice.TestView.{TestView}
use Rattle.program_calls.proofs.expectations.write_test.Goals as goal

pub returns-in-Report : goal.returns-in-Report
returns-in-Report g c =
    let P : TestView → Type 0 = λ v. OnOk c.write_tests.result (WritesTest c.args.form v c.args.topology.now c.args.script.now (g.W.Sink.contents c.args.out.now) (g.W.Sink.contents c.write_tests.new.out)) in
    subst P (sym c.in-Report.is) c.write_tests.ensures

pub returns-in-Progress : goal.returns-in-Progress
returns-in-Progress g c =
    let P : TestView → Type 0 = λ v. OnOk c.write_tests-in-Progress.result (WritesTest c.args.form v c.args.topology.now c.args.script.now (g.W.Sink.contents c.args.out.now) (g.W.Sink.contents c.write_tests-in-Progress.new.out)) in
    subst P (sym c.in-Progress.is) c.write_tests-in-Progress.ensures

pub returns-in-Traced : goal.returns-in-Traced
returns-in-Traced g c =
    let P : TestView → Type 0 = λ v. OnOk c.write_traced.result (WritesTest c.args.form v c.args.topology.now c.args.script.now (g.W.Sink.contents c.args.out.now) (g.W.Sink.contents c.write_traced.new.out)) in
    subst P (sym c.in-Traced.is) c.write_traced.ensures

pub returns-in-Plain : goal.returns-in-Plain
returns-in-Plain g c =
    let P : TestView → Type 0 = λ v. OnOk c.write_plain.result (WritesTest c.args.form v c.args.topology.now c.args.script.now (g.W.Sink.contents c.args.out.now) (g.W.Sink.contents c.write_plain.new.out)) in
    subst P (sym c.in-Plain.is) c.write_plain.ensures
