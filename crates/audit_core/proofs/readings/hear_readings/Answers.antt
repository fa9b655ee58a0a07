use Rattle.std.proofs.Common.{false}
use Rattle.capture_monitor.specs.Watch.{captured_by}
use Rattle.audit_core.proofs.JoinedLines.{none_joined}
use Rattle.audit_core.proofs.Writing.{heard_as}
use Rattle.audit_core.proofs.readings.hear_readings.Goals as goal

pub returns : goal.returns
returns g c = heard_as g.H.LineHearer.hears c.args.out.now c.hear_from.new.out _ _ (none_joined false (captured_by c.args.windows c.args.capture.now)) c.hear_from.ensures
