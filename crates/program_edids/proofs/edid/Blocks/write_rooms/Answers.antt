use Rattle.std.proofs.Common.{◌∙◌}
use Rattle.program_edids.specs.Edids.{Shows}
use Rattle.cli_choice.specs.declared.choice.View.TheVariants.{Room}
use Rattle.program_edids.proofs.ShownLemmas.{on_ok}
use Rattle.program_edids.proofs.edid.Blocks.write_rooms.Goals as goal

pub returns : goal.returns
returns g c =
    on_ok c.write_own_room.result _ (Shows (Room c.args.place c.args.form) c.args.self.bytes.now (g.W.Sink.contents c.args.out.now) (g.W.Sink.contents c.write_own_room.new.out))
    (λ w. (w.0, (c.in_ok-given.given.items, c.in_ok-given.ensures, (w.1.0, w.1.1 ∙ c.as_slice.ensures.value, w.1.2)), w.2))
    c.write_own_room.ensures
