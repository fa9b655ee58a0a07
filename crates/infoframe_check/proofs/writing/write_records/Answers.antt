use Rattle.std.proofs.Common.{rules}
use Rattle.text_core.proofs.Adding.{text_ended}
use Rattle.infoframe_check.specs.Records.{infoframe_text}
use Rattle.infoframe_check.proofs.writing.write_records.Goals as goal

pub returns : goal.returns
returns g c =
    text_ended g.S.Sink.contents g.S.Sink.is_stuck c.args.out.now _ c.into_sink-below.result.now _ c.into_sink-below.result.ghost_name c.new-text.result c.add_infoframe.new.out
    (infoframe_text c.args.form c.args.base.now c.args.extensions.now c.args.frame.now) c.written-written.result c.new-text.ensures c.add_infoframe.ensures
    c.written-written.ensures.text c.into_sink-below.ensures.loan c.into_sink-below.ensures.known c.into_sink-below.ensures.stuck (search rules)
