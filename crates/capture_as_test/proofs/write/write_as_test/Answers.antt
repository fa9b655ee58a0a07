use Rattle.std.proofs.Common.{◌≡◌, ◌∙◌, ap, map, rules}
use Rattle.capture_as_test.proofs.Writing.{written_as}
use Rattle.capture_as_test.proofs.write.write_as_test.Goals as goal
use Rattle.capture_frames.specs.Frames.{frame_as}

pub returns : goal.returns
returns g c =
    let same : c.deref.result.now ≡ c.in-Ok.frames.items = search rules in
    written_as c.args.capture.now (map frame_as c.deref.result.now) c.is_remarked-remarked.result (g.S.Sink.contents c.args.out.now) (g.S.Sink.contents c.write_test.new.out)
    (g.S.Sink.is_stuck c.args.out.now) (g.S.Sink.is_stuck c.write_test.new.out) c.write_test.result (ap (map frame_as) same ∙ c.in-Ok.ensures) c.is_remarked-remarked.ensures c.write_test.ensures
