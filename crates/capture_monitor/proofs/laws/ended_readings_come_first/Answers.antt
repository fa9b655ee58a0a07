use Rattle.capture_monitor.proofs.ReadBy as ReadBy
use Rattle.capture_monitor.proofs.laws.ended_readings_come_first.Goals as goal

pub returns : goal.returns
returns c = ReadBy.ended_first
