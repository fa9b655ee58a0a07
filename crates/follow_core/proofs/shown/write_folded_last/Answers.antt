use Rattle.std.proofs.Common.{◌++◌, ap, refl, rules, sym, ◌∙◌, append-nil}
use Rattle.text_core.proofs.Adding.{text_ended}
use Rattle.audit_notes.specs.Lines.{lines_text}
use Rattle.audit_notes.specs.Folded.{closed, folded_after, held_as}
use Rattle.audit_notes.specs.Hearing.{both_by}
use Rattle.follow_core.specs.Shown.{ended_lines}
use Rattle.follow_core.proofs.Showing.{folded_last}
use Rattle.follow_core.proofs.Written.{puts_cut, puts_whole}
use Rattle.follow_core.proofs.shown.write_folded_last.Goals as goal

pub returns-in-Ok : goal.returns-in-Ok
returns-in-Ok g c =
    let heard = c.hear_ended-is_held.ensures.hears in
    let folding = c.hear_ended-is_held.new.out in
    let lines = heard.0 ++ closed (held_as folding.run) in
    let text = lines_text c.args.written lines in
    let both = both_by c.args.written folding.hearer.form c.finish-writer.result.form c.new.result folding.hearer.out c.finish-writer.result.out heard.0 (closed (held_as folding.run)) heard.1 c.finish-writer.ensures in (
      lines,
      folded_last (held_as c.args.shown.run) (held_as folding.run) (ended_lines c.args.starts c.args.shown.is_held c.args.heard.now) heard.0 heard.2,
      puts_whole _ _ _ _ text _ c.written-done.result _ c.in-Ok.is refl
          (text_ended g.S.Sink.contents g.S.Sink.is_stuck c.args.out.now _ c.into_sink-below.result.now _ c.into_sink-below.result.ghost_name c.new.result c.finish-writer.result.out text c.written-done.result
          c.new.ensures both.1 c.written-done.ensures.text
          c.into_sink-below.ensures.loan c.into_sink-below.ensures.known c.into_sink-below.ensures.stuck (search rules)),
    )

pub returns-in-Err : goal.returns-in-Err
returns-in-Err g c =
    let heard = c.hear_ended-is_held.ensures.hears in
    let folding = c.hear_ended-is_held.new.out in
    let lines = heard.0 ++ closed (held_as folding.run) in
    let text = lines_text c.args.written lines in
    let both = both_by c.args.written folding.hearer.form c.finish-writer.result.form c.new.result folding.hearer.out c.finish-writer.result.out heard.0 (closed (held_as folding.run)) heard.1 c.finish-writer.ensures in (
      lines,
      folded_last (held_as c.args.shown.run) (held_as folding.run) (ended_lines c.args.starts c.args.shown.is_held c.args.heard.now) heard.0 heard.2,
      puts_cut _ _ _ _ text _ c.written-done.result c.in-Err.fault c.in-Err.is refl
          (text_ended g.S.Sink.contents g.S.Sink.is_stuck c.args.out.now _ c.into_sink-below.result.now _ c.into_sink-below.result.ghost_name c.new.result c.finish-writer.result.out text c.written-done.result
          c.new.ensures both.1 c.written-done.ensures.text
          c.into_sink-below.ensures.loan c.into_sink-below.ensures.known c.into_sink-below.ensures.stuck (search rules)),
    )
