use Rattle.std.proofs.Common.{List, append-nil, codes, subst}
use Rattle.text_core.specs.Adds.{Adds}
use Rattle.record_core.specs.Cells.{PlainCell}
use Rattle.record_core.specs.Records.{record_text}
use Rattle.room_trace.specs.Records.{event_cells}
use Rattle.room_trace.specs.TraceText.{event_line}
use Rattle.room_trace.proofs.Records.{recorded, same_lines}
use Rattle.room_trace.proofs.trace_text.add_event.Goals as goal

pub returns : goal.returns
returns g c =
    let cells = event_cells c.args.at c.args.line c.args.refused in
    recorded c.args.form (event_line c.args.at c.args.line c.args.refused) (codes "event") cells c.args.out.now c.add_event_with.new.out
    (same_lines.event c.args.at c.args.line c.args.refused)
    (subst (λ (all : List PlainCell). Adds c.args.out.now c.add_event_with.new.out (record_text c.args.form (codes "event") all)) (append-nil cells) c.add_event_with.ensures)
