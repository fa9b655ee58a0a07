use Rattle.std.proofs.Common.{codes, rules}
use Rattle.text_core.proofs.Adding.{text_ended}
use Rattle.reading_record.specs.Reading.{reading_cells}
use Rattle.record_core.specs.Records.{record_text}
use Rattle.expect_told.proofs.shown.write_reading.Goals as goal

pub returns : goal.returns
returns g c =
    text_ended g.S.Sink.contents g.S.Sink.is_stuck c.args.out.now _ c.into_sink-below.result.now _ c.into_sink-below.result.ghost_name c.new-text.result c.add_reading.new.out (record_text c.args.form (codes "reading") (reading_cells c.args.reading.now)) c.written-written.result
    c.new-text.ensures c.add_reading.ensures c.written-written.ensures.text
    c.into_sink-below.ensures.loan c.into_sink-below.ensures.known c.into_sink-below.ensures.stuck (search rules)
