use Rattle.capture_verdict.proofs.Lawful.{silent_idle}
use Rattle.capture_verdict.proofs.laws.silent_lines_are_idle.Goals as goal

pub returns : goal.returns
returns c = silent_idle
