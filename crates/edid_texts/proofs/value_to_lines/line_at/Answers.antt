use Rattle.std.proofs.Common.{◌-◌, ◌∙◌, arith}
use Rattle.edid_texts.proofs.Gets.{in_base, in_ext}
use Rattle.edid_texts.proofs.value_to_lines.line_at.Goals as goal

pub returns-then-number-lt23 : goal.returns-then-number-lt23
returns-then-number-lt23 c = in_base c.args.base.now c.args.extensions.now c.args.number c.if-number-lt23.true ∙ c.base_line.ensures

pub returns : goal.returns
returns c = in_ext c.args.base.now c.args.extensions.now c.args.number (c.args.number - 23) (omega arith) ∙ c.line_in.ensures
