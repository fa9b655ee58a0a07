use Rattle.message_lay.proofs.Records.{pull_lines, pulls_read_back}
use Rattle.message_lay.proofs.laws.pulls_are_lines.Goals as goal

pub returns-clause-lines : goal.returns-clause-lines
returns-clause-lines c = pull_lines

pub returns-clause-objects : goal.returns-clause-objects
returns-clause-objects c = pulls_read_back
