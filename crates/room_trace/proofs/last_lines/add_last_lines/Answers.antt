use Rattle.std.specs.List.{flat_map}
use Rattle.text_core.proofs.Adding.{then}
use Rattle.room_trace.specs.Records.{end_text, state_text}
use Rattle.room_trace.proofs.last_lines.add_last_lines.Goals as goal

pub returns : goal.returns
returns g c = then _ _ _ (flat_map (state_text c.args.form) c.args.devices.now) (end_text c.args.form c.args.end) c.add_states.ensures c.add_end.ensures
