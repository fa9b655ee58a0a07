use Rattle.message_table.proofs.WordLemmas.{other_deck_control}
use Rattle.message_table.proofs.deck_words.DeckControlMode.from_byte.Goals as goal

pub returns-in_default : goal.returns-in_default
returns-in_default c = other_deck_control _ _
