use Rattle.message_table.proofs.WordLemmas.{other_user_control}
use Rattle.message_table.proofs.user_control.UserControl.from_byte.Goals as goal

pub returns-in_default : goal.returns-in_default
returns-in_default c = other_user_control _ _
