use Rattle.std.proofs.Common.{rules}
use Rattle.text_core.proofs.Adding.{text_ended}
use Rattle.text_core.proofs.Counting.{all_of, front_of}
use Rattle.capture_replay.specs.Replay.{replay_text}
use Rattle.capture_replay.proofs.write.write_replay.Goals as goal

pub returns-in-Ok : goal.returns-in-Ok
returns-in-Ok g c =
    let text = replay_text c.args.address c.args.capture.now in
    let done = all_of _ _ _ _ text _ _ c.in-Ok.is
    (text_ended g.S.Sink.contents g.S.Sink.is_stuck c.args.out.now _ c.into_sink-below.result.now _ c.into_sink-below.result.ghost_name c.new-text.result c.add_replay-counts.new.out text c.written-written.result
    c.new-text.ensures (rw (c.value.ensures.value, c.edges.ensures.edges, c.end.ensures.end) at c.add_replay-counts.ensures.text) c.written-written.ensures.text
    c.into_sink-below.ensures.loan c.into_sink-below.ensures.known c.into_sink-below.ensures.stuck (search rules)) in
    (rw (c.value.ensures.value, c.edges.ensures.edges, c.end.ensures.end) at c.add_replay-counts.ensures.counts, done.0, done.1)

pub returns-in-Err : goal.returns-in-Err
returns-in-Err g c =
    let text = replay_text c.args.address c.args.capture.now in
    front_of _ _ _ _ text _ _ c.in-Err.is
    (text_ended g.S.Sink.contents g.S.Sink.is_stuck c.args.out.now _ c.into_sink-below.result.now _ c.into_sink-below.result.ghost_name c.new-text.result c.add_replay-counts.new.out text c.written-written.result
    c.new-text.ensures (rw (c.value.ensures.value, c.edges.ensures.edges, c.end.ensures.end) at c.add_replay-counts.ensures.text) c.written-written.ensures.text
    c.into_sink-below.ensures.loan c.into_sink-below.ensures.known c.into_sink-below.ensures.stuck (search rules))
