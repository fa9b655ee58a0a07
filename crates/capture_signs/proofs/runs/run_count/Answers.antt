use Rattle.std.proofs.Common.{arith}
use Rattle.piece_audit.specs.Wide.{lows_from}
use Rattle.capture_signs.proofs.Running.{no_run, runs_counted, runs_go_on, runs_on}
use Rattle.capture_signs.proofs.Summing.{none_left}
use Rattle.capture_signs.proofs.runs.run_count.Goals as goal

pub lows-preserved : goal.lows-preserved
lows-preserved c =
    runs_go_on c.args.kind c.args.shortest (runs_on c.args.kind c.args.shortest no_run (lows_from c.args.edges.now)) c.lows.tally c.with-tally.result c.first_low.result
    c.lows.left.now c.after_first-left.result.now c.first_low.ensures c.after_first-left.ensures.rest c.with-tally.ensures c.lows.invariant

pub returns : goal.returns
returns c =
    runs_counted c.args.kind c.args.shortest c.lows.tally c.lows.left.now c.args.edges.now (none_left c.lows.left.now (omega (arith, c.lows-test.false))) c.lows.invariant
