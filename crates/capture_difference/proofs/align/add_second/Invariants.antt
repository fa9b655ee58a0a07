use Rattle.std.proofs.Common.{◌≡◌, ◌++◌, map, length}
use Rattle.capture_difference.proofs.align.add_second.Given as goal
use Rattle.capture_difference.specs.Rows.{row_as}
use Rattle.capture_difference.specs.Rows.Row.{Second}
use Rattle.capture_frames.specs.Frames.{frame_as}

-- the rows of the frames before, and of those that are left
abbrev pub invariant-frames : goal.invariant-frames
invariant-frames l = map row_as l.rows.items ++ map Second (map frame_as l.rest) ≡ map row_as l.fn.rows.items ++ map Second (map frame_as l.frames)

abbrev pub decreases-frames : goal.decreases-frames
decreases-frames l = length l.rest
