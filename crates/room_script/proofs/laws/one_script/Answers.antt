use Rattle.room_script.proofs.OneReading.{one_script}
use Rattle.room_script.proofs.laws.one_script.Goals as goal

pub returns : goal.returns
returns c = one_script
