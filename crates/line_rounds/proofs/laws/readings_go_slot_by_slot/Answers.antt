use Rattle.line_rounds.proofs.Law as Law
use Rattle.line_rounds.proofs.Walk as Walk
use Rattle.line_rounds.proofs.Inside as Inside
use Rattle.line_rounds.proofs.Holding as Holding
use Rattle.line_rounds.proofs.laws.readings_go_slot_by_slot.Goals as goal

pub returns-clause-starts : goal.returns-clause-starts
returns-clause-starts c = Law.reached_start

pub returns-clause-next : goal.returns-clause-next
returns-clause-next c = Walk.reach_next

pub returns-clause-unsampled : goal.returns-clause-unsampled
returns-clause-unsampled c = Walk.known_unsampled

pub returns-clause-known : goal.returns-clause-known
returns-clause-known c = Inside.known_here

pub returns-clause-over : goal.returns-clause-over
returns-clause-over c = Holding.done_by

pub returns-clause-acknowledges : goal.returns-clause-acknowledges
returns-clause-acknowledges c = Holding.acks_now
