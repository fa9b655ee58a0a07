use Rattle.message_table.proofs.WordLemmas.{other_version}
use Rattle.message_table.proofs.words.Version.from_byte.Goals as goal

pub returns-in_default : goal.returns-in_default
returns-in_default c = other_version _ _
