use Rattle.message_table.proofs.WordLemmas.{other_play_mode}
use Rattle.message_table.proofs.deck_words.PlayMode.from_byte.Goals as goal

pub returns-in_default : goal.returns-in_default
returns-in_default c = other_play_mode _ _
