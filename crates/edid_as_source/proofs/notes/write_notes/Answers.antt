use Rattle.std.proofs.Common.{rules}
use Rattle.text_core.proofs.Adding.{text_ended}
use Rattle.edid_as_source.specs.Notes.{notes_text}
use Rattle.edid_as_source.proofs.notes.write_notes.Goals as goal

pub returns : goal.returns
returns g c =
    text_ended g.S.Sink.contents g.S.Sink.is_stuck c.args.out.now _ c.into_sink-below.result.now _ c.into_sink-below.result.ghost_name c.new-lines.result c.add_notes.new.out
    (notes_text c.args.bytes.now) c.written-written.result c.new-lines.ensures c.add_notes.ensures c.written-written.ensures.text c.into_sink-below.ensures.loan c.into_sink-below.ensures.known c.into_sink-below.ensures.stuck (search rules)
