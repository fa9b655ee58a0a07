use Rattle.audit_judged.proofs.Saying as Saying
use Rattle.audit_judged.proofs.laws.one_ending.Goals as goal

pub returns : goal.returns
returns c = Saying.one_ending
