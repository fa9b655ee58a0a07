use Rattle.std.proofs.Common.{◌≡◌, ◌+◌, length, map}
use Rattle.capture_difference.proofs.nearest.nearest.Given as goal
use Rattle.capture_difference.specs.Aligned.{nearest, nearest_from}
use Rattle.capture_frames.specs.Frames.{frame_as}

-- none stands after fewer frames
abbrev pub invariant-steps : goal.invariant-steps
invariant-steps l = record {
  same : nearest_from (map frame_as l.xs) (map frame_as l.ys) l.left l.steps ≡ nearest (map frame_as l.xs) (map frame_as l.ys);
  room : l.steps + l.left ≡ length l.xs + length l.ys;
}

abbrev pub decreases-steps : goal.decreases-steps
decreases-steps l = l.left
