use Rattle.room_net.proofs.Lines as Lines
use Rattle.room_net.proofs.laws.runs_are_in_order.Goals as goal

pub returns : goal.returns
returns c = Lines.runs_are_in_order
