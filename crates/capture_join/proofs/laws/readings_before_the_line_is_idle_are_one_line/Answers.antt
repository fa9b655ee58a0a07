use Rattle.capture_join.proofs.JoinedLines.{one_line}
use Rattle.capture_join.proofs.laws.readings_before_the_line_is_idle_are_one_line.Goals as goal

pub returns : goal.returns
returns c = one_line
