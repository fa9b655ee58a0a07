use Rattle.std.proofs.Common.{sym, ◌∙◌}
use Rattle.capture_verdict.proofs.Reading.{low_ok, not_low}
use Rattle.capture_verdict.proofs.readings.inverted_of.Goals as goal

pub returns-then-is_low : goal.returns-then-is_low
returns-then-is_low c = low_ok c.args.capture.now c.inverted_low.result (sym c.is_low.ensures ∙ c.if-is_low.true) c.inverted_low.ensures

pub returns-else-is_low : goal.returns-else-is_low
returns-else-is_low c = not_low c.args.capture.now (sym c.is_low.ensures ∙ c.if-is_low.false)
