use Rattle.message_table.proofs.WordLemmas.{other_device_type}
use Rattle.message_table.proofs.words.DeviceType.from_byte.Goals as goal

pub returns-in_default : goal.returns-in_default
returns-in_default c = other_device_type _ _
