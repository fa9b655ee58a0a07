use Rattle.message_table.proofs.WordLemmas.{other_menu_state}
use Rattle.message_table.proofs.screen_words.MenuState.from_byte.Goals as goal

pub returns-in_default : goal.returns-in_default
returns-in_default c = other_menu_state _ _
