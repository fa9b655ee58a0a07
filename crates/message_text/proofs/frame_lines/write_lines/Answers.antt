use Rattle.std.proofs.Common.{◌≡◌, ◌<◌, ◌^◌, rules, arith}
use Rattle.message_text.proofs.FrameLineLemmas.{put_none, put_more, put_short, put_whole}
use Rattle.message_text.proofs.frame_lines.write_lines.Goals as goal

pub loop-current-init : goal.loop-current-init
loop-current-init g c = record {
  put = λ frames a. put_none c.args.text.now frames (g.S.Sink.contents c.args.out.now) (g.S.Sink.is_stuck c.args.out.now) a;
  room = omega arith;
}

pub returns-in-Err : goal.returns-in-Err
returns-in-Err g c = λ frames a.
    put_short c.loop-current.rest.now c.in-Some.after.now c.in-Some.current.now frames
    (g.S.Sink.contents c.args.out.now) (g.S.Sink.contents c.loop-current.out) (g.S.Sink.contents c.write_frame_line.new.out)
    (g.S.Sink.is_stuck c.args.out.now) (g.S.Sink.is_stuck c.loop-current.out) (g.S.Sink.is_stuck c.write_frame_line.new.out)
    c.loop-current.written c.in-Err.fault (c.loop-current.invariant.put frames a) c.in-Some.ensures.lines c.in-Err.ensures.whole

pub loop-current-preserved : goal.loop-current-preserved
loop-current-preserved g c =
    let shorter = c.in-Some.ensures.shorter in
    let room = c.loop-current.invariant.room in
    let count : c.in-Ok.count < 2 ^ 64 = search rules in
    let from : c.from-written.result ≡ c.in-Ok.count = c.from-written.ensures in
    record {
      put = λ frames a. rw from (
          put_more c.loop-current.rest.now c.in-Some.after.now c.in-Some.current.now frames
          (g.S.Sink.contents c.args.out.now) (g.S.Sink.contents c.loop-current.out) (g.S.Sink.contents c.write_frame_line.new.out)
          (g.S.Sink.is_stuck c.args.out.now) (g.S.Sink.is_stuck c.loop-current.out) (g.S.Sink.is_stuck c.write_frame_line.new.out)
          c.loop-current.written c.in-Ok.count (c.loop-current.invariant.put frames a) c.in-Some.ensures.lines c.in-Ok.ensures.whole);
      room = omega arith;
    }

pub returns : goal.returns
returns g c = λ frames a.
    put_whole c.loop-current.rest.now frames (g.S.Sink.contents c.args.out.now) (g.S.Sink.contents c.loop-current.out)
    (g.S.Sink.is_stuck c.args.out.now) (g.S.Sink.is_stuck c.loop-current.out) c.loop-current.written
    (c.loop-current.invariant.put frames a) c.in_default.ensures.lines
