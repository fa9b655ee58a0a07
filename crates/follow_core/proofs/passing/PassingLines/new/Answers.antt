use Rattle.follow_core.proofs.Onward.{calm_zero, passing_first}
use Rattle.capture_through.specs.Through.{IsCalm}
use Rattle.follow_core.specs.Lines.{lines_captured}
use Rattle.std.proofs.Common.{ap, subst, sym, ℕ, ◌∙◌}
use Rattle.follow_core.specs.Passing.{through_read}
use Rattle.follow_core.proofs.passing.PassingLines.new.Goals as goal

pub returns-clause-first : goal.returns-clause-first
returns-clause-first c = λ signal lines.
    ap (through_read c.new-2.result) (c.new.ensures.first signal lines) ∙ passing_first c.new-2.result c.args.inverted c.args.glitch (lines_captured c.args.form signal lines) c.new-2.ensures.whole

pub returns-clause-passing : goal.returns-clause-passing
returns-clause-passing c = record {
  lines = c.new.ensures.early;
  held = c.new-2.ensures.early;
  calm = subst (λ (n : ℕ). IsCalm n c.new-2.result) (sym c.new.ensures.from) (calm_zero c.new-2.result);
}
