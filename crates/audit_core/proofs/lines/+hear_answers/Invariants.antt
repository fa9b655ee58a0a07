use Rattle.std.proofs.Common.{length}
use Rattle.audit_core.proofs.lines.+hear_answers.Given as goal

abbrev pub decreases-hear_answers : goal.decreases-hear_answers
decreases-hear_answers g l = length l.waiting.now
