use Rattle.line_frames.proofs.Acks as Acks
use Rattle.line_frames.proofs.laws.acknowledge_slots_decide_nothing.Goals as goal

pub returns-clause-order : goal.returns-clause-order
returns-clause-order c = Acks.acks_decide_nothing

pub returns-clause-winners : goal.returns-clause-winners
returns-clause-winners c = Acks.same_winners
