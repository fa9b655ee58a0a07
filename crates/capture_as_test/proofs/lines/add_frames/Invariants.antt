use Rattle.std.proofs.Common.{◌≡◌, ◌+◌, map, length}
use Rattle.capture_as_test.specs.Lines.{frames_text}
use Rattle.capture_as_test.proofs.Frames.{AddsFront}
use Rattle.capture_as_test.proofs.lines.add_frames.Given as goal
use Rattle.capture_frames.specs.Frames.{frame_as}

-- the lines of the frames before are added
abbrev pub invariant-frames : goal.invariant-frames
invariant-frames g l = record {
  text : AddsFront l.fn.out l.out l.number l.end (map frame_as l.rest) (frames_text 0 0 (map frame_as l.frames));
  room : l.number + length l.rest ≡ length l.frames;
}

abbrev pub decreases-frames : goal.decreases-frames
decreases-frames g l = length l.rest
