use Rattle.rules_records.proofs.Lines.{findings_read_back}
use Rattle.rules_records.proofs.laws.finding_objects_are_read_back.Goals as goal

pub returns : goal.returns
returns c = findings_read_back
