use Rattle.std.proofs.Common.{◌++◌, refl, rules, append_assoc, [], append-nil}
use Rattle.text_core.proofs.Adding.{text_ended}
use Rattle.audit_notes.specs.Lines.{lines_text}
use Rattle.follow_core.specs.Shown.{ended_lines}
use Rattle.follow_core.proofs.Written.{puts_cut, puts_whole}
use Rattle.follow_core.proofs.shown.write_plain.Goals as goal

pub returns-in-Ok : goal.returns-in-Ok
returns-in-Ok g c =
    let lines = ended_lines c.args.starts c.args.shown.now.is_held c.args.heard.now in
    let text = lines_text c.args.written lines in (
      lines,
      record { held = c.hear_ended-shown.ensures.held; lines = λ rest. refl },
      puts_whole _ _ _ _ text _ c.written-done.result _ c.in-Ok.is refl
          (text_ended g.S.Sink.contents g.S.Sink.is_stuck c.args.out.now _ c.into_sink-below.result.now _ c.into_sink-below.result.ghost_name c.new.result c.hear_ended-shown.new.out.out text c.written-done.result
          c.new.ensures c.hear_ended-shown.ensures.hears.1 c.written-done.ensures.text
          c.into_sink-below.ensures.loan c.into_sink-below.ensures.known c.into_sink-below.ensures.stuck (search rules)),
    )

pub returns-in-Err : goal.returns-in-Err
returns-in-Err g c =
    let lines = ended_lines c.args.starts c.args.shown.now.is_held c.args.heard.now in
    let text = lines_text c.args.written lines in (
      lines,
      record { held = c.hear_ended-shown.ensures.held; lines = λ rest. refl },
      puts_cut _ _ _ _ text _ c.written-done.result c.in-Err.fault c.in-Err.is refl
          (text_ended g.S.Sink.contents g.S.Sink.is_stuck c.args.out.now _ c.into_sink-below.result.now _ c.into_sink-below.result.ghost_name c.new.result c.hear_ended-shown.new.out.out text c.written-done.result
          c.new.ensures c.hear_ended-shown.ensures.hears.1 c.written-done.ensures.text
          c.into_sink-below.ensures.loan c.into_sink-below.ensures.known c.into_sink-below.ensures.stuck (search rules)),
    )
