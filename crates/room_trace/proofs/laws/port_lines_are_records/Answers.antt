use Rattle.room_trace.proofs.Records.{port_same}
use Rattle.room_trace.proofs.laws.port_lines_are_records.Goals as goal

pub returns : goal.returns
returns c = port_same
