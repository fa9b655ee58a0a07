use Rattle.message_table.proofs.RowLemmas.{operands_kept}
use Rattle.message_table.proofs.laws.messages_keep_operands.Goals as goal

pub returns : goal.returns
returns c = operands_kept
