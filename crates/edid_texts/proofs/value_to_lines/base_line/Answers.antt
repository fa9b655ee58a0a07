use Rattle.std.proofs.Common.{◌-◌, sym, ◌∙◌, ap, arith, Some}
use Rattle.edid_texts.specs.Lines.{head_lines, standard_line, descriptor_line}
use Rattle.edid_texts.proofs.Gets.{get_left, standard_at, descriptor_at}
use Rattle.edid_texts.proofs.value_to_lines.base_line.Goals as goal

pub returns-then-number-lt11 : goal.returns-then-number-lt11
returns-then-number-lt11 c = get_left (head_lines c.args.base.now) _ c.args.number (omega arith) ∙ c.head_line.ensures

pub returns-then-number-lt19 : goal.returns-then-number-lt19
returns-then-number-lt19 c =
    standard_at c.args.base.now c.args.number (c.args.number - 11) c.index-base-number.result (omega arith) (omega arith) c.index-base-number.is
    ∙ ap (λ s. Some (standard_line s)) c.index-base-number.is ∙ ap (λ l. Some l) (sym c.standard_line.ensures)

pub returns-else-number-lt19 : goal.returns-else-number-lt19
returns-else-number-lt19 c =
    descriptor_at c.args.base.now c.args.number (c.args.number - 19) c.index-base-number-else-number-lt19.result (omega arith) (omega arith) c.index-base-number-else-number-lt19.is
    ∙ ap (λ s. Some (descriptor_line s)) c.index-base-number-else-number-lt19.is ∙ ap (λ l. Some l) (sym c.descriptor_line.ensures)
