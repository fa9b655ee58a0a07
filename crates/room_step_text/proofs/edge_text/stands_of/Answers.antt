use Rattle.std.proofs.Common.{rules, ◌∙◌, ◌++◌, ℕ, List, ap, sym, arith}
use Rattle.record_core.specs.Cells.{PlainValue}
use Rattle.room_step_text.specs.EdgeText.{position_value, standing_device}
use Rattle.room_step_text.proofs.Stands.{more_of}
use Rattle.room_step_text.proofs.edge_text.stands_of.Goals as goal

pub loop-device-preserved : goal.loop-device-preserved
loop-device-preserved c =
    let f = standing_device (position_value c.args.position) in
    let here = c.loop-device in
    record {
      parts = c.push_stand.ensures.parts ∙ ap (λ (l : List (List ℕ × PlainValue)). l ++ f c.device-item.result) here.invariant.parts
          ∙ sym (more_of f c.args.devices.now here.device-index c.device-item.result c.loop-device-test.true (search rules));
      few = omega (arith, c.push_stand.ensures.few, here.invariant.few);
    }
