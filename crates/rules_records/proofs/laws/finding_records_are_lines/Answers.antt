use Rattle.rules_records.proofs.Lines.{finding_lines}
use Rattle.rules_records.proofs.laws.finding_records_are_lines.Goals as goal

pub returns : goal.returns
returns c = finding_lines
