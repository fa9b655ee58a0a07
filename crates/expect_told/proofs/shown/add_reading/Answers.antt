use Rattle.std.proofs.Common.{List, append-nil, codes, subst}
use Rattle.text_core.specs.Adds.{Adds}
use Rattle.record_core.specs.Cells.{PlainCell}
use Rattle.reading_record.specs.Reading.{reading_cells}
use Rattle.record_core.specs.Records.{record_text}
use Rattle.expect_told.proofs.shown.add_reading.Goals as goal

pub returns : goal.returns
returns g c =
    subst (λ (cells : List PlainCell). Adds c.args.out.now c.add_reading_with.new.out (record_text c.args.form (codes "reading") cells)) (append-nil (reading_cells c.args.reading.now)) c.add_reading_with.ensures
