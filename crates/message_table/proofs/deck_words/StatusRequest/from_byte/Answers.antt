use Rattle.message_table.proofs.WordLemmas.{other_status_request}
use Rattle.message_table.proofs.deck_words.StatusRequest.from_byte.Goals as goal

pub returns-in_default : goal.returns-in_default
returns-in_default c = other_status_request _ _
