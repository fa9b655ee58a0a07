use Rattle.std.proofs.Common.{None, Some, sym, ◌∙◌}
use Rattle.edid_dump.proofs.RowLemmas.{chosen_all, chosen_none, row_by_count}
use Rattle.edid_dump.proofs.rows.row_count.Goals as goal

pub returns-in_default-digit_count : goal.returns-in_default-digit_count
returns-in_default-digit_count c =
    sym (row_by_count c.args.form c.args.line.now c.in-Some.start c.after.result.now None c.in-Some.ensures c.after.ensures c.in_default-digit_count.ensures)

pub returns-then-may_have : goal.returns-then-may_have
returns-then-may_have c =
    sym (row_by_count c.args.form c.args.line.now c.in-Some.start c.after.result.now (Some c.in-Some-digit_count.count) c.in-Some.ensures c.after.ensures
    c.in-Some-digit_count.ensures
    ∙ chosen_all c.args.form c.in-Some-digit_count.count (sym c.may_have.ensures ∙ c.if-may_have.true))

pub returns-else-may_have : goal.returns-else-may_have
returns-else-may_have c =
    sym (row_by_count c.args.form c.args.line.now c.in-Some.start c.after.result.now (Some c.in-Some-digit_count.count) c.in-Some.ensures c.after.ensures
    c.in-Some-digit_count.ensures
    ∙ chosen_none c.args.form c.in-Some-digit_count.count (sym c.may_have.ensures ∙ c.if-may_have.false))
