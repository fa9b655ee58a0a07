use Rattle.std.proofs.Common.{codes}
use Rattle.room_trace.specs.Records.{end_cells}
use Rattle.room_trace.specs.TraceText.{end_line}
use Rattle.room_trace.proofs.Records.{recorded, same_lines}
use Rattle.room_trace.proofs.trace_text.add_end.Goals as goal

pub returns : goal.returns
returns g c = recorded c.args.form (end_line c.args.end) (codes "end") (end_cells c.args.end) c.args.out.now c.add_record.new.out (same_lines.end c.args.end) c.add_record.ensures
