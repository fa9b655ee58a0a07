use Rattle.std.proofs.Common.{sym, ◌∙◌}
use Rattle.capture_verdict.proofs.Reading.{none_short, short_ok}
use Rattle.capture_verdict.proofs.readings.glitches_of.Goals as goal

pub returns-then-is_any : goal.returns-then-is_any
returns-then-is_any c = short_ok c.args.capture.now c.sum-count.result c.glitches_short.result c.sum-count.ensures c.glitches_short.ensures

pub returns-else-is_any : goal.returns-else-is_any
returns-else-is_any c = none_short c.args.capture.now c.sum-count.result c.sum-count.ensures (sym c.is_any.ensures ∙ c.if-is_any.false)
