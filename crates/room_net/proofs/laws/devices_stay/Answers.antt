use Rattle.room_net.proofs.Kept as Kept
use Rattle.room_net.proofs.laws.devices_stay.Goals as goal

pub returns-clause-start : goal.returns-clause-start
returns-clause-start c = Kept.started_count

pub returns-clause-round : goal.returns-clause-round
returns-clause-round c = Kept.round_count
