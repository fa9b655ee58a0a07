use Rattle.std.proofs.Common.{rules}
use Rattle.text_core.proofs.Adding.{text_ended}
use Rattle.edid_eld.specs.Eld.{parts_of}
use Rattle.meaning_eld.specs.Records.{eld_text}
use Rattle.meaning_eld.proofs.writing.write_eld.Goals as goal

pub returns : goal.returns
returns g c =
    text_ended g.S.Sink.contents g.S.Sink.is_stuck c.args.out.now _ c.into_sink-below.result.now _ c.into_sink-below.result.ghost_name c.new-text.result c.add_eld.new.out
    (eld_text c.args.form (parts_of c.args.eld.now)) c.written-written.result c.new-text.ensures c.add_eld.ensures c.written-written.ensures.text
    c.into_sink-below.ensures.loan c.into_sink-below.ensures.known c.into_sink-below.ensures.stuck (search rules)
