use Rattle.capture_as_test.proofs.Frames.{first_frame}
use Rattle.capture_as_test.proofs.lines.add_frame.Goals as goal
use Rattle.capture_as_test.specs.Pattern.{pattern_as}
use Rattle.capture_frames.specs.Frames.{frame_as}

pub returns-then-number-eq0 : goal.returns-then-number-eq0
returns-then-number-eq0 g c =
    first_frame c.args.out.now c.add_first.new.out c.args.number c.args.end (frame_as c.args.frame.now) (pattern_as c.pattern_of-pattern.result) c.if-number-eq0.true c.pattern_of-pattern.ensures
    c.add_first.ensures
