use Rattle.follow_core.proofs.Followed.{end_same_passing, received_turn}
use Rattle.follow_core.proofs.laws.lines_leave_a_capture_in_turn.Goals as goal

pub returns-clause-turn : goal.returns-clause-turn
returns-clause-turn c = received_turn

pub returns-clause-ended : goal.returns-clause-ended
returns-clause-ended c = end_same_passing
