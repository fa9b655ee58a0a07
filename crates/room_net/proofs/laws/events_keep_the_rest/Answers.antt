use Rattle.room_net.proofs.Kept as Kept
use Rattle.room_net.proofs.laws.events_keep_the_rest.Goals as goal

pub returns : goal.returns
returns c = Kept.event_keeps
