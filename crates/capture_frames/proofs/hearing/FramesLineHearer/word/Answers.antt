use Rattle.std.proofs.Common.{map}
use Rattle.capture_frames.specs.Frames.{frame_as}
use Rattle.capture_frames.specs.Heard.{none_kept}
use Rattle.capture_frames.proofs.hearing.FramesLineHearer.word.Goals as goal

pub returns : goal.returns
returns c = none_kept (map frame_as c.args.self.now.frames.items) c.args.self.now.full
