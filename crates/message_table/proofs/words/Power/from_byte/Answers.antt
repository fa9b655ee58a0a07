use Rattle.message_table.proofs.WordLemmas.{other_power}
use Rattle.message_table.proofs.words.Power.from_byte.Goals as goal

pub returns-in_default : goal.returns-in_default
returns-in_default c = other_power _ _
