use Rattle.audit_judged.proofs.Saying as Saying
use Rattle.audit_judged.proofs.laws.whole_frames_are_taken.Goals as goal

pub returns : goal.returns
returns c = Saying.whole_frames_are_taken
