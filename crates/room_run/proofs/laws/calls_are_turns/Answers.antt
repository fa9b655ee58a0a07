use Rattle.room_run.proofs.Running as Running
use Rattle.room_run.proofs.laws.calls_are_turns.Goals as goal

pub returns-clause-event : goal.returns-clause-event
returns-clause-event c = Running.event_happens

pub returns-clause-round : goal.returns-clause-round
returns-clause-round c = Running.round_happens

pub returns-clause-event_turn : goal.returns-clause-event_turn
returns-clause-event_turn c = Running.event_turn_is

pub returns-clause-round_turn : goal.returns-clause-round_turn
returns-clause-round_turn c = Running.round_turn_is
