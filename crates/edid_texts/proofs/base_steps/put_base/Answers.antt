use Rattle.std.proofs.Common.{◌≡◌, ◌+◌, ◌++◌, ◌∷◌, [], take, arith}
use Rattle.edid_texts.specs.Lines.{base_lines}
use Rattle.edid_texts.proofs.BaseNexts.{lift_head}
use Rattle.edid_texts.proofs.base_steps.put_base.Goals as goal

pub returns-then-number-lt6 : goal.returns-then-number-lt6
returns-then-number-lt6 c =
    lift_head c.put_product.result c.args.number c.args.line.now (take (c.args.number + 1) (base_lines c.put_product.new.base) ≡ take c.args.number (base_lines c.args.base.now) ++ c.args.line.now ∷ []) (omega arith) c.put_product.ensures

pub returns-then-number-lt11 : goal.returns-then-number-lt11
returns-then-number-lt11 c =
    lift_head c.put_display.result c.args.number c.args.line.now (take (c.args.number + 1) (base_lines c.put_display.new.base) ≡ take c.args.number (base_lines c.args.base.now) ++ c.args.line.now ∷ []) (omega arith) c.put_display.ensures
