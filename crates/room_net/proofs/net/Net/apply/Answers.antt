use Rattle.std.proofs.Common.{◌∙◌, sym, ap}
use Rattle.line_wire.specs.declared.edge_wire.EdgeWire.{EdgeWire}
use Rattle.room_net.specs.State.{NetState}
use Rattle.room_net.proofs.Applying.{none_is_told, answered_event}
use Rattle.room_net.proofs.net.Net.apply.Goals.{then-is_none, else-is_none}
use Rattle.room_net.proofs.net.Net.apply.Goals as goal

pub returns-clause-state : goal.returns-clause-state
returns-clause-state g c =
    elim c.if-is_none.branch [
      | then-is_none w ↦
          let idle = sym (ap (λ (s : NetState). s.heard) c.self.view_is) ∙ none_is_told (λ (wire : EdgeWire). wire.time) c.self.inside.begun w.if-is_none.ensures in
          rw w.self-is (answered_event w.apply_to_devices-answer.result c.args.at c.args.event c.args.self.now w.apply_to_devices-answer.new.self idle w.apply_to_devices-answer.ensures)
      | else-is_none w ↦ rw w.self-is w.apply_underway-answer.ensures.state
    ]
