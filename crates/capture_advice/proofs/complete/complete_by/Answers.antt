use Rattle.std.proofs.Common.{map}
use Rattle.capture_monitor.specs.Watch.{captured_by}
use Rattle.audit_notes.specs.Lines.AuditLine.{Reading}
use Rattle.capture_advice.proofs.Counting.{same_windows, within_most}
use Rattle.capture_advice.proofs.complete.complete_by.Goals as goal

pub returns-clause-counted : goal.returns-clause-counted
returns-clause-counted c = same_windows c.hear_readings.new.out.count c.args.margin c.wider-windows.result c.args.capture.now c.wider-windows.ensures.wider c.hear_readings.ensures

pub returns-clause-within : goal.returns-clause-within
returns-clause-within c = within_most c.hear_readings.new.out.count (map Reading (captured_by c.wider-windows.result c.args.capture.now)) c.hear_readings.ensures
