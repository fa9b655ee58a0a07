use Rattle.std.proofs.Common.{Option, ap}
use Rattle.room_trace.specs.Room.{Room}
use Rattle.room_run.specs.Happening.{given}
use Rattle.room_run.proofs.Whole.{event_objects_added}
use Rattle.room_run.proofs.objects_text.ObjectsTextReporter.event.Goals as goal

pub returns : goal.returns
returns g c = λ before applied. (
  event_objects_added c.args.applied.now.at c.args.self.now.passed.edid.now c.args.self.now.room c.args.applied.now.event.now before c.args.net.now c.args.applied.now.refused c.args.applied.now.was.now c.tree.result.now _ _ _
      applied c.tree.ensures c.add_event_in.ensures.added c.add_new_ports.ensures,
  ap (λ (room : Option Room). given c.args.self.now.passed.edid.now room) c.add_event_in.ensures.same,
)
