use Rattle.std.proofs.Common.{List, append-nil, codes, subst}
use Rattle.text_core.specs.Adds.{Adds}
use Rattle.line_reading.specs.Readings.{Listed}
use Rattle.record_core.specs.Cells.{PlainCell}
use Rattle.record_core.specs.Records.{record_text}
use Rattle.reading_record.specs.Reading.{reading_cells}
use Rattle.capture_monitor.specs.Watch.{reading_as}
use Rattle.piece_audit.proofs.texts.add_line.Goals as goal

pub returns : goal.returns
returns g c =
    subst (λ (x : Listed). Adds c.args.out.now c.add_reading_with.new.out (record_text c.args.form (codes "reading") (reading_cells (reading_as x)))) c.reading_of-reading.ensures
    (subst (λ (cells : List PlainCell). Adds c.args.out.now c.add_reading_with.new.out (record_text c.args.form (codes "reading") cells)) (append-nil (reading_cells c.reading_of-reading.result))
    c.add_reading_with.ensures)
