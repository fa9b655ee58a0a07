use Rattle.std.proofs.Common.{codes}
use Rattle.room_trace.specs.Records.{state_cells}
use Rattle.room_trace.specs.StateText.{state_line}
use Rattle.room_trace.proofs.Records.{recorded, same_lines}
use Rattle.room_trace.proofs.state_text.add_state.Goals as goal

pub returns : goal.returns
returns g c =
    recorded c.args.form (state_line c.args.device.now) (codes "state") (state_cells c.args.device.now) c.args.out.now c.add_state_record.new.out (same_lines.state c.args.device.now) c.add_state_record.ensures
