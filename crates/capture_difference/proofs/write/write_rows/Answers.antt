use Rattle.std.proofs.Common.{map, rules}
use Rattle.text_core.proofs.Adding.{text_ended}
use Rattle.text_core.proofs.Counting.{all_of, front_of}
use Rattle.capture_difference.proofs.write.write_rows.Goals as goal
use Rattle.capture_difference.specs.Lines.{difference_text}
use Rattle.capture_difference.specs.Rows.{row_as}

pub returns-in-Ok : goal.returns-in-Ok
returns-in-Ok g c =
    let text = difference_text c.args.form (map row_as c.args.rows.now) in
    let done = all_of _ _ _ _ text _ _ c.in-Ok.is
    (text_ended g.S.Sink.contents g.S.Sink.is_stuck c.args.out.now _ c.into_sink-below.result.now _ c.into_sink-below.result.ghost_name c.new-text.result c.add_lines-same.new.out text c.written-written.result
    c.new-text.ensures c.add_lines-same.ensures.text c.written-written.ensures.text
    c.into_sink-below.ensures.loan c.into_sink-below.ensures.known c.into_sink-below.ensures.stuck (search rules)) in
    (c.add_lines-same.ensures.same, done.0, done.1)

pub returns-in-Err : goal.returns-in-Err
returns-in-Err g c =
    let text = difference_text c.args.form (map row_as c.args.rows.now) in
    front_of _ _ _ _ text _ _ c.in-Err.is
    (text_ended g.S.Sink.contents g.S.Sink.is_stuck c.args.out.now _ c.into_sink-below.result.now _ c.into_sink-below.result.ghost_name c.new-text.result c.add_lines-same.new.out text c.written-written.result
    c.new-text.ensures c.add_lines-same.ensures.text c.written-written.ensures.text
    c.into_sink-below.ensures.loan c.into_sink-below.ensures.known c.into_sink-below.ensures.stuck (search rules))
