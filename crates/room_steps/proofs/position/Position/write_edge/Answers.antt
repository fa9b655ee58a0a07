use Rattle.std.proofs.Common.{◌∙◌, ◌≤◌, List, ap, length, subst, sym}
use Rattle.device_core.specs.State.{State}
use Rattle.room_step_text.specs.EdgeText.{edge_text}
use Rattle.line_reading.specs.Follows.{standing_by_code}
use Rattle.room_net.specs.State.{NetState}
use Rattle.text_core.specs.Cut.{WrittenText}
use Rattle.room_steps.proofs.position.Position.write_edge.Goals as goal

pub write_edge-requires : goal.write_edge-requires
write_edge-requires g c = subst (λ (ds : List State). length ds ≤ 15) (sym (c.devices.ensures ∙ ap (λ (n : NetState). n.devices) c.deref.ensures)) c.requires.few

pub returns : goal.returns
returns g c =
    let line = λ (standing : _). edge_text c.args.form c.args.self.now.net.value.devices c.args.edge standing in
    let stands = rw c.deref-2.ensures at c.standing_of.ensures in
    let devices = c.devices.ensures ∙ ap (λ (n : NetState). n.devices) c.deref.ensures in (
      line (standing_by_code c.standing_of.result),
      λ begin heard low next reported is. ap line (stands begin heard low next reported is),
      subst (λ devices. WrittenText (g.S.Sink.contents c.args.out.now) (g.S.Sink.contents c.write_edge.new.out) (g.S.Sink.is_stuck c.args.out.now) (g.S.Sink.is_stuck c.write_edge.new.out)
          (edge_text c.args.form devices c.args.edge (standing_by_code c.standing_of.result)) c.write_edge.result) devices c.write_edge.ensures,
    )
