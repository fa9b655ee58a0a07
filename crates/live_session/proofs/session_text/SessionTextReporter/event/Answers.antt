use Rattle.std.proofs.Common.{refl}
use Rattle.live_session.proofs.Saying.{event_said}
use Rattle.live_session.proofs.session_text.SessionTextReporter.event.Goals as goal

pub returns : goal.returns
returns g c = λ before applied. (
  event_said c.args.self.now.seats c.args.self.now.form c.args.applied.now.at c.args.self.now.passed.edid.now c.args.self.now.span c.args.applied.now.event.now before c.args.net.now c.args.applied.now.refused c.args.applied.now.was.now c.tree.result.now c.devices.result.now _ _ _ _
      applied c.tree.ensures c.devices.ensures c.has_each_device.ensures c.add_event.ensures c.add_new_ports.ensures c.add_moved.ensures,
  refl,
)
