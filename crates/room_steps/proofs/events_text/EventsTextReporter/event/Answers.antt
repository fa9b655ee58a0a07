use Rattle.std.proofs.Common.{refl}
use Rattle.room_steps.proofs.Told.{event_told}
use Rattle.room_steps.proofs.events_text.EventsTextReporter.event.Goals as goal

pub returns : goal.returns
returns g c = λ before applied. (
  event_told c.args.self.now.form c.args.applied.now.at c.args.self.now.trace.passed.edid.now c.args.applied.now.event.now before c.args.net.now c.args.applied.now.refused c.args.applied.now.was.now c.tree.result.now _ _ _
      applied c.tree.ensures c.add_event.ensures c.add_new_ports.ensures,
  refl,
)
