use Rattle.std.proofs.Common.{rules}
use Rattle.text_core.proofs.Adding.{text_ended}
use Rattle.edid_merge.proofs.notes.write_merge_notes.Goals as goal

pub returns : goal.returns
returns g c =
    let noted = c.add_notes.ensures in (
      noted.0,
      noted.1,
      text_ended g.S.Sink.contents g.S.Sink.is_stuck c.args.out.now _ c.into_sink-below.result.now _ c.into_sink-below.result.ghost_name c.new-lines.result c.add_notes.new.out
          noted.0 c.written-written.result c.new-lines.ensures noted.2 c.written-written.ensures.text c.into_sink-below.ensures.loan c.into_sink-below.ensures.known c.into_sink-below.ensures.stuck (search rules),
    )
