use Rattle.std.proofs.Common.{◌≡◌}
use Rattle.program_calls.specs.Tests.{WritesTest}
use Rattle.program_calls.proofs.ShownLemmas.{on_ok}
use Rattle.program_calls.proofs.TestLemmas.{traced}
use Rattle.cli_choice.specs.declared.choice.TestView.TheVariants.{Traced}
use Rattle.program_calls.proofs.expectations.write_traced.Goals as goal

pub returns : goal.returns
returns g c =
    on_ok c.passed.result (c.in_ok-tally.tally.failed ≡ 0) (WritesTest c.args.form Traced c.args.topology.now c.args.script.now (g.W.Sink.contents c.args.out.now) (g.W.Sink.contents c.put_all.new.out))
    (λ none. traced c.args.form c.args.topology.now c.args.script.now c.in_ok-remarks.remarks.items c.deref.result.now (g.W.Sink.contents c.args.out.now) (g.W.Sink.contents c.check.new.out) (g.W.Sink.contents c.put_all.new.out)
    c.in_ok-tally.tally c.in_ok-tally.ensures.ok c.in_ok-remarks.ensures c.deref.ensures.value c.in_ok-put_all.ensures.ok none)
    c.passed.ensures
