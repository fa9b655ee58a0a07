use Rattle.follow_core.proofs.Told.{told_front}
use Rattle.follow_core.proofs.laws.told_readings_come_first.Goals as goal

pub returns : goal.returns
returns c = told_front
