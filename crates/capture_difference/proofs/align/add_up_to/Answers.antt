use Rattle.std.proofs.Common.{map, option_map}
use Rattle.std.specs.Option.{option_copied}
use Rattle.capture_difference.proofs.Laying.{laid_up_to}
use Rattle.capture_difference.proofs.align.add_up_to.Goals as goal
use Rattle.capture_difference.specs.Rows.{row_as}
use Rattle.capture_frames.specs.Frames.{frame_as}

pub returns : goal.returns
returns c =
    laid_up_to (map frame_as c.args.xs.now) (map frame_as c.args.ys.now) (map frame_as c.told_front-first.result.now) (map frame_as c.told_front-second.result.now)
    (option_map frame_as (option_copied c.frame_at-x.result)) (option_map frame_as (option_copied c.frame_at-y.result)) c.args.meeting
    (map row_as c.args.rows.now.items) (map row_as c.add_alone.new.rows.items) (map row_as c.add_met.new.rows.items)
    c.told_front-first.ensures c.told_front-second.ensures c.frame_at-x.ensures c.frame_at-y.ensures c.in_ok-add_alone.ensures c.in_ok-add_met.ensures
