use Rattle.std.proofs.Common.{arith}
use Rattle.piece_audit.specs.Wide.{lows_from}
use Rattle.capture_signs.specs.Signs.{shortest_period}
use Rattle.capture_signs.proofs.Bounding.{least_first, most_fits, shorter_all, shorter_fits, shorter_on}
use Rattle.capture_signs.proofs.Summing.{none_left}
use Rattle.capture_signs.proofs.bounds.shortest_period.Goals as goal

pub lows-init : goal.lows-init
lows-init c = (least_first (lows_from c.args.edges.now), most_fits)

pub lows-preserved : goal.lows-preserved
lows-preserved c = (
  shorter_on c.lows.shortest c.shorter_period-shortest.result (shortest_period (lows_from c.args.edges.now)) c.first_low.result c.lows.left.now c.after_first-left.result.now
      c.first_low.ensures c.after_first-left.ensures.rest c.shorter_period-shortest.ensures c.lows.invariant.0,
  shorter_fits c.lows.shortest c.shorter_period-shortest.result c.first_low.result c.shorter_period-shortest.ensures c.lows.invariant.1,
)

pub returns : goal.returns
returns c =
    shorter_all c.lows.shortest c.lows.left.now c.args.edges.now c.lows.invariant.1 (none_left c.lows.left.now (omega (arith, c.lows-test.false))) c.lows.invariant.0
