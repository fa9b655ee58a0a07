use Rattle.room_net.proofs.Ports as lemmas
use Rattle.room_net.proofs.laws.below_is_the_ports.Goals as goal

pub returns : goal.returns
returns c = lemmas.below_is_the_ports
