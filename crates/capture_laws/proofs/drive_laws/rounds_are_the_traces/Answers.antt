use Rattle.capture_laws.proofs.Dumps as lemmas
use Rattle.capture_laws.proofs.drive_laws.rounds_are_the_traces.Goals as goal

pub returns : goal.returns
returns c = lemmas.rounds_are_the_traces
