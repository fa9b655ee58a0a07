use Rattle.message_table.proofs.WordLemmas.{other_menu_request}
use Rattle.message_table.proofs.screen_words.MenuRequestType.from_byte.Goals as goal

pub returns-in_default : goal.returns-in_default
returns-in_default c = other_menu_request _ _
