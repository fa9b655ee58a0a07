use Rattle.std.proofs.Common.{length, map, rules}
use Rattle.std.proofs.lemmas.List.{take_rest}
use Rattle.capture_as_test.proofs.Frames.{one_at, one_less}
use Rattle.capture_as_test.proofs.lines.add_frames.Goals as goal
use Rattle.capture_as_test.specs.Lines.{frames_text}
use Rattle.capture_frames.specs.Frames.{frame_as}

pub frames-preserved : goal.frames-preserved
frames-preserved g c =
    rw take_rest
    (record {
      text =
          one_at c.args.out.now c.frames.out c.add_frame.new.out c.frames.number c.frames.end c.frames.rest.now c.frame-item.result (frames_text 0 0 (map frame_as c.args.frames.now))
          c.in-len1-up.len_at_least (search rules) c.frames.invariant.text c.add_frame.ensures;
      room = one_less c.frames.number c.frames.rest.now (length c.args.frames.now) c.in-len1-up.len_at_least c.frames.invariant.room;
    })
