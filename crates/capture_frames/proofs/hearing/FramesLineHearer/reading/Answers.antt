use Rattle.std.proofs.Common.{map, sym, ◌∙◌}
use Rattle.capture_frames.specs.Frames.{frame_as}
use Rattle.capture_frames.proofs.Keeping.{kept, passed}
use Rattle.capture_frames.proofs.hearing.FramesLineHearer.reading.Goals as goal

pub returns-then-not-is_complete : goal.returns-then-not-is_complete
returns-then-not-is_complete c = passed (map frame_as c.args.self.now.frames.items) c.args.self.now.full c.args.reading.now (sym c.is_complete.ensures ∙ c.if-not-is_complete.true)

pub returns : goal.returns
returns c =
    kept (map frame_as c.args.self.now.frames.items) (map frame_as c.keep.new.self.frames.items) c.args.self.now.full c.keep.new.self.full c.args.reading.now
    (sym c.is_complete.ensures ∙ c.if-not-is_complete.false) c.keep.ensures
