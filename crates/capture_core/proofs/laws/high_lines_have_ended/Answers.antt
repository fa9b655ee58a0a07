use Rattle.capture_core.proofs.Ends as Ends
use Rattle.capture_core.proofs.laws.high_lines_have_ended.Goals as goal

pub returns : goal.returns
returns c = Ends.ends_by
