use Rattle.audit_notes.proofs.Groups.{folding}
use Rattle.audit_notes.proofs.laws.folding_loses_no_line.Goals as goal

pub returns : goal.returns
returns c = folding
