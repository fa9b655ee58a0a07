use Rattle.std.proofs.Common.{map, rules}
use Rattle.text_core.proofs.Adding.{text_ended}
use Rattle.text_core.proofs.Counting.{all_of, front_of}
use Rattle.capture_as_test.proofs.write.write_test.Goals as goal
use Rattle.capture_as_test.specs.Lines.{test_of}
use Rattle.capture_frames.specs.Frames.{frame_as}

pub returns-in-Ok : goal.returns-in-Ok
returns-in-Ok g c =
    let text = test_of (map frame_as c.args.frames.now) c.args.remarked in
    all_of _ _ _ _ text _ _ c.in-Ok.is
    (text_ended g.S.Sink.contents g.S.Sink.is_stuck c.args.out.now _ c.into_sink-below.result.now _ c.into_sink-below.result.ghost_name c.new-test.result c.add_test.new.out text c.written-written.result
    c.new-test.ensures c.add_test.ensures c.written-written.ensures.text
    c.into_sink-below.ensures.loan c.into_sink-below.ensures.known c.into_sink-below.ensures.stuck (search rules))

pub returns-in-Err : goal.returns-in-Err
returns-in-Err g c =
    let text = test_of (map frame_as c.args.frames.now) c.args.remarked in
    front_of _ _ _ _ text _ _ c.in-Err.is
    (text_ended g.S.Sink.contents g.S.Sink.is_stuck c.args.out.now _ c.into_sink-below.result.now _ c.into_sink-below.result.ghost_name c.new-test.result c.add_test.new.out text c.written-written.result
    c.new-test.ensures c.add_test.ensures c.written-written.ensures.text
    c.into_sink-below.ensures.loan c.into_sink-below.ensures.known c.into_sink-below.ensures.stuck (search rules))
