use Rattle.std.proofs.Common.{◌∙◌, rules}
use Rattle.message_table.specs.Table.{operands_of}
use Rattle.expect_text.specs.Said.{opcode_parts, verdict_parts}
use Rattle.expect_text.specs.Senders.{judged_as}
use Rattle.expect_text.proofs.Fronts.{operand_lines}
use Rattle.expect_text.proofs.said.is_operand_met.Goals as goal

pub returns : goal.returns
returns c =
    c.is_met_by.ensures
    ∙ operand_lines (judged_as c.args.who) c.args.pattern.now c.deref.result.now (opcode_parts c.args.is_broadcast c.args.code) c.deref-2.result.now (verdict_parts c.args.is_broadcast c.args.last_bit)
    c.operands_of.result (operands_of c.args.code) (search rules) (search rules) c.operands_of.ensures
