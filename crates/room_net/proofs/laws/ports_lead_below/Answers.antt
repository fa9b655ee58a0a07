use Rattle.room_net.proofs.Ports as lemmas
use Rattle.room_net.proofs.laws.ports_lead_below.Goals as goal

pub returns : goal.returns
returns c = lemmas.ports_lead_below
