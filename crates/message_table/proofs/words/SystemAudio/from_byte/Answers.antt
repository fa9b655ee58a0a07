use Rattle.message_table.proofs.WordLemmas.{other_system_audio}
use Rattle.message_table.proofs.words.SystemAudio.from_byte.Goals as goal

pub returns-in_default : goal.returns-in_default
returns-in_default c = other_system_audio _ _
