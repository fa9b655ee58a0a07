use Rattle.std.proofs.Common.{sym}
use Rattle.follow_core.proofs.Left.{row_early, row_refuses, row_takes}
use Rattle.follow_core.proofs.lines.take_row.Goals as goal

pub returns-in-Ok-clause-takes : goal.returns-in-Ok-clause-takes
returns-in-Ok-clause-takes c = λ signal. row_takes signal c.args.reader.now c.take.new.self c.args.number c.args.line.now c.in-Ok.edge c.in-Ok.ensures

pub returns-in-Ok-clause-early : goal.returns-in-Ok-clause-early
returns-in-Ok-clause-early c =
    let e = row_early c.csv_lines_are_early.ensures c.args.reader.now c.take.new.self c.args.line.now c.in-Ok.edge c.requires.early c.in-Ok.ensures in
    e.0

pub returns-in-Ok-clause-edge : goal.returns-in-Ok-clause-edge
returns-in-Ok-clause-edge c =
    let e = row_early c.csv_lines_are_early.ensures c.args.reader.now c.take.new.self c.args.line.now c.in-Ok.edge c.requires.early c.in-Ok.ensures in
    e.1

pub returns-in-Err-clause-takes : goal.returns-in-Err-clause-takes
returns-in-Err-clause-takes c = λ signal. row_refuses signal c.args.reader.now c.take.new.self c.args.number c.args.line.now c.in-Err.slip c.on_line.result c.in-Err.ensures (sym c.on_line.ensures)
