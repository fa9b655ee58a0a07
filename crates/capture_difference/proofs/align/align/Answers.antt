use Rattle.std.proofs.Common.{List, ◌++◌, ◌-◌, map, sym, ap₂, ◌∙◌, lt-ltb}
use Rattle.capture_difference.proofs.Laying.{laid_more, one_more}
use Rattle.capture_difference.proofs.align.align.Goals as goal
use Rattle.capture_difference.specs.Aligned.{aligned, aligned_by, up_to}
use Rattle.capture_difference.specs.Rows.{row_as}
use Rattle.capture_frames.specs.Frames.{FrameLine, frame_as}

pub meetings-preserved : goal.meetings-preserved
meetings-preserved c =
    let first = map frame_as c.meetings.xs.now in
    let second = map frame_as c.meetings.ys.now in
    let m = c.in-Some.meeting in
    let n = c.meetings.left in
    laid_more (map row_as c.meetings.rows.items) (map row_as c.add_up_to.new.rows.items)
    (aligned_by (n - 1) (map frame_as c.past-xs.result.now) (map frame_as c.past-ys.result.now)) (aligned_by n first second)
    (aligned (map frame_as c.args.first.now) (map frame_as c.args.second.now)) (up_to first second m) c.meetings.invariant
    (one_more n first second m (lt-ltb 0 n c.meetings-test.true) (sym c.nearest.ensures ∙ c.in-Some.is)
    ∙ ap₂ (λ (us vs : List FrameLine). up_to first second m ++ aligned_by (n - 1) us vs) (sym c.past-xs.ensures) (sym c.past-ys.ensures))
    c.in_ok-add_up_to.ensures
