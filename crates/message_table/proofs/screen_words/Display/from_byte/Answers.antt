use Rattle.message_table.proofs.WordLemmas.{other_display}
use Rattle.message_table.proofs.screen_words.Display.from_byte.Goals as goal

pub returns-in_default : goal.returns-in_default
returns-in_default c = other_display _ _
