use Rattle.room_net.proofs.Taken as lemmas
use Rattle.room_net.proofs.laws.rounds_take_pulses.Goals as goal

pub returns : goal.returns
returns c = lemmas.rounds_take_pulses
