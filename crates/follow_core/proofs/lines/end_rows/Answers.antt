use Rattle.std.proofs.Common.{ap, sym, ◌∙◌}
use Rattle.capture_core.specs.Track.{last_edge}
use Rattle.follow_core.proofs.Left.{rows_end, rows_end_early, rows_end_not}
use Rattle.follow_core.proofs.lines.end_rows.Goals as goal

pub returns-in-Ok-clause-ends : goal.returns-in-Ok-clause-ends
returns-in-Ok-clause-ends c = rows_end c.args.reader.now c.args.number c.in-Ok.end c.last.result (sym c.in-Ok.ensures) (c.last.ensures ∙ ap last_edge c.track.ensures)

pub returns-in-Ok-clause-early : goal.returns-in-Ok-clause-early
returns-in-Ok-clause-early c = rows_end_early c.csv_lines_go_on.ensures c.args.reader.now c.in-Ok.end c.requires.early (sym c.in-Ok.ensures)

pub returns-in-Err-clause-ends : goal.returns-in-Err-clause-ends
returns-in-Err-clause-ends c = rows_end_not c.args.reader.now c.args.number c.on_line.result c.in-Err.cause (sym c.in-Err.ensures)
