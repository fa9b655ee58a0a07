use Rattle.std.proofs.Common.{arith}
use Rattle.piece_audit.specs.Wide.{lows_from}
use Rattle.capture_signs.specs.Signs.{longest_short}
use Rattle.capture_signs.proofs.Bounding.{longer_all, longer_on, longest_first}
use Rattle.capture_signs.proofs.Summing.{none_left}
use Rattle.capture_signs.proofs.bounds.longest_short.Goals as goal

pub lows-init : goal.lows-init
lows-init c = (longest_first (longest_short (lows_from c.args.edges.now)), omega arith)

pub lows-preserved : goal.lows-preserved
lows-preserved c = (
  longer_on c.lows.longest c.longer_short-longest.result (longest_short (lows_from c.args.edges.now)) c.first_low.result c.lows.left.now c.after_first-left.result.now
      c.first_low.ensures c.after_first-left.ensures.rest c.longer_short-longest.ensures.value c.lows.invariant.0,
  c.longer_short-longest.ensures.small,
)

pub returns-clause-value : goal.returns-clause-value
returns-clause-value c =
    longer_all c.lows.longest c.lows.left.now c.args.edges.now (none_left c.lows.left.now (omega (arith, c.lows-test.false))) c.lows.invariant.0
