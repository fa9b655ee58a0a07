use Rattle.message_table.proofs.WordLemmas.{other_reason}
use Rattle.message_table.proofs.words.Reason.from_byte.Goals as goal

pub returns-in_default : goal.returns-in_default
returns-in_default c = other_reason _ _
