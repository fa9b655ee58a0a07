use Rattle.capture_monitor.proofs.ReadBy.{standard_readings}
use Rattle.capture_monitor.proofs.laws.standard_windows_read_the_line.Goals as goal

pub returns : goal.returns
returns c = standard_readings
