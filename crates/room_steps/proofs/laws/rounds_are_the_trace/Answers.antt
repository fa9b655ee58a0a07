use Rattle.room_steps.proofs.TraceRounds as lemmas
use Rattle.room_steps.proofs.laws.rounds_are_the_trace.Goals as goal

pub returns : goal.returns
returns c = lemmas.rounds_are_the_trace
