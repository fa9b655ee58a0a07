use Rattle.std.proofs.Common.{◌≡◌, ◌+◌, map}
use Rattle.capture_difference.proofs.nearest.meeting_after.Given as goal
use Rattle.capture_difference.specs.Aligned.{meeting_from}
use Rattle.capture_frames.specs.Frames.{frame_as}

-- no frame of both stands at a place before
abbrev pub invariant-places : goal.invariant-places
invariant-places l = record {
  same : meeting_from (map frame_as l.xs) (map frame_as l.ys) l.first l.second ≡ meeting_from (map frame_as l.xs) (map frame_as l.ys) 0 l.steps;
  room : l.first + l.second ≡ l.steps;
}

abbrev pub decreases-places : goal.decreases-places
decreases-places l = l.second
