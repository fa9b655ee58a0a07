use Rattle.std.proofs.Common.{rules}
use Rattle.text_core.proofs.Adding.{text_ended}
use Rattle.edid_difference.specs.Records.{difference_text}
use Rattle.edid_difference.proofs.writing.write_difference.Goals as goal

pub returns : goal.returns
returns g c =
    text_ended g.S.Sink.contents g.S.Sink.is_stuck c.args.out.now _ c.into_sink-below.result.now _ c.into_sink-below.result.ghost_name c.new-text.result c.add_difference.new.out
    (difference_text c.args.form c.args.first.now c.args.first_extensions.now c.args.second.now c.args.second_extensions.now) c.written-written.result c.new-text.ensures c.add_difference.ensures
    c.written-written.ensures.text c.into_sink-below.ensures.loan c.into_sink-below.ensures.known c.into_sink-below.ensures.stuck (search rules)
