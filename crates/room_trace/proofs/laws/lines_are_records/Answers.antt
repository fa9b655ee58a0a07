use Rattle.room_trace.proofs.Records.{same_lines}
use Rattle.room_trace.proofs.laws.lines_are_records.Goals as goal

pub returns : goal.returns
returns c = same_lines
