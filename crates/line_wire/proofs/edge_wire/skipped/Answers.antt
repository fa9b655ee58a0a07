use Rattle.std.proofs.Common.{◌+◌, ◌<◌, arith, ap}
use Rattle.std.proofs.lemmas.List.Elements.{All-more}
use Rattle.line_wave.specs.declared.Stretch.{Stretch}
use Rattle.line_wire.proofs.Rounding.{start_past}
use Rattle.line_wire.proofs.edge_wire.skipped.Goals as goal

pub loop-stretch-preserved : goal.loop-stretch-preserved
loop-stretch-preserved c =
    let i = c.loop-stretch.invariant in
    (ap (λ n. n + 1) i.0, All-more (λ (p : Stretch). p.from < c.args.start) c.args.stretches.now c.loop-stretch.stretch-index _ c.loop-stretch-test.true i.1 c.if-stretch-start.false)

pub returns-clause-late : goal.returns-clause-late
returns-clause-late c = let i = c.loop-stretch.invariant in start_past c.args.start c.loop-stretch.skipped c.args.stretches.now (omega (arith, i.0, c.loop-stretch-test.false))
