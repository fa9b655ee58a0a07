use Rattle.std.proofs.Common.{◌≡◌, true, false, rules}
use Rattle.device_features.specs.Kinds.{is_outside}
use Rattle.room_trace.proofs.Records.{adds_state}
use Rattle.room_trace.proofs.state_text.add_state_record.Goals as goal

pub returns-then-is_outside : goal.returns-then-is_outside
returns-then-is_outside g c =
    let is : is_outside c.args.device.now.kind ≡ true = search rules in
    adds_state c.args.form c.args.device.now c.args.out.now c.add_outside.new.out true is c.add_outside.ensures

pub returns-else-is_outside : goal.returns-else-is_outside
returns-else-is_outside g c =
    let is : is_outside c.args.device.now.kind ≡ false = search rules in
    adds_state c.args.form c.args.device.now c.args.out.now c.add_known.new.out false is c.add_known.ensures
