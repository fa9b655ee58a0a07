use Rattle.std.proofs.Common.{arith}
use Rattle.piece_audit.specs.Wide.{lows_from}
use Rattle.capture_signs.specs.Signs.{amount}
use Rattle.capture_signs.proofs.Summing.{goes_on, none_left, on, summed}
use Rattle.capture_signs.proofs.sums.signed.Goals as goal

pub lows-preserved : goal.lows-preserved
lows-preserved c =
    goes_on (amount c.args.sign c.args.end) c.lows.sum c.with_low-sum.result (on (amount c.args.sign c.args.end) 0 (lows_from c.args.edges.now)) c.first_low.result
    c.lows.left.now c.after_first-left.result.now c.first_low.ensures c.after_first-left.ensures.rest c.with_low-sum.ensures c.lows.invariant

pub returns : goal.returns
returns c = summed (amount c.args.sign c.args.end) c.lows.sum c.lows.left.now c.args.edges.now (none_left c.lows.left.now (omega (arith, c.lows-test.false))) c.lows.invariant
