use Rattle.std.proofs.Common.{◌≡◌, ◌++◌, map}
use Rattle.capture_difference.proofs.align.align.Given as goal
use Rattle.capture_difference.specs.Aligned.{aligned, aligned_by}
use Rattle.capture_difference.specs.Rows.{row_as}
use Rattle.capture_frames.specs.Frames.{frame_as}

-- the rows so far, and those of the frames that are left
abbrev pub invariant-meetings : goal.invariant-meetings
invariant-meetings l = map row_as l.rows.items ++ aligned_by l.left (map frame_as l.xs) (map frame_as l.ys) ≡ aligned (map frame_as l.first) (map frame_as l.second)

abbrev pub decreases-meetings : goal.decreases-meetings
decreases-meetings l = l.left
