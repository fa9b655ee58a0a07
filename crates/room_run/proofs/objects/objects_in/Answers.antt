use Rattle.std.proofs.Common.{IfOk, Option, option_map, subst, ◌≡◌}
use Rattle.room_trace.specs.Room.{Room}
use Rattle.room_run.specs.declared.run.Reporting.TheVariants.{Objects}
use Rattle.room_run.proofs.objects.objects_in.Goals as goal

pub returns : goal.returns
returns c =
    subst (λ (room : Option Room). IfOk c.objects_with.result (λ reporting. reporting.value ≡ Objects (option_map (λ b. b.value) c.args.edid) room)) c.room_if.ensures c.objects_with.ensures
