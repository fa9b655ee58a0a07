use Rattle.std.proofs.Common.{length}
use Rattle.audit_contents.proofs.rules.+any_outside.Given as goal

abbrev pub decreases-any_outside : goal.decreases-any_outside
decreases-any_outside l = length l.text.now
