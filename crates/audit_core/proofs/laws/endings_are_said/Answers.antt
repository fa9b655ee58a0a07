use Rattle.audit_core.proofs.EndingsSaid.{endings_are_said}
use Rattle.audit_core.proofs.laws.endings_are_said.Goals as goal

pub returns : goal.returns
returns c = endings_are_said
