use Rattle.room_net.proofs.Framed as Framed
use Rattle.room_net.proofs.laws.frames_have_blocks.Goals as goal

pub returns-clause-start : goal.returns-clause-start
returns-clause-start c = Framed.framed-started

pub returns-clause-event : goal.returns-clause-event
returns-clause-event c = Framed.framed-applied

pub returns-clause-round : goal.returns-clause-round
returns-clause-round c = Framed.framed-round

pub returns-clause-seats : goal.returns-clause-seats
returns-clause-seats c = Framed.seats_fit
