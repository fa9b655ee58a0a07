use Rattle.room_steps.proofs.TraceSteps as lemmas
use Rattle.room_steps.proofs.laws.steps_are_the_trace.Goals as goal

pub returns : goal.returns
returns c = lemmas.steps_are_the_trace
