use Rattle.room_net.proofs.Orderly.{polls_take_turns}
use Rattle.room_net.proofs.held.polls_take_turns.Goals as goal

pub returns : goal.returns
returns c = polls_take_turns
