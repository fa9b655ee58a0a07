use Rattle.room_run.proofs.Certainty as Certainty
use Rattle.room_run.proofs.laws.rounds_stay.Goals as goal

pub returns-clause-late : goal.returns-clause-late
returns-clause-late c = Certainty.is_late

pub returns-clause-round : goal.returns-clause-round
returns-clause-round c = Certainty.round_more

pub returns-clause-turn : goal.returns-clause-turn
returns-clause-turn c = Certainty.round_same
