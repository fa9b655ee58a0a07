use Rattle.line_reading.proofs.Following as Following
use Rattle.line_reading.proofs.FollowingBy as FollowingBy
use Rattle.line_reading.proofs.laws.calm_lines_tell_nothing.Goals as goal

pub returns-clause-nothing : goal.returns-clause-nothing
returns-clause-nothing c = Following.once_so

pub returns-clause-kept : goal.returns-clause-kept
returns-clause-kept c = Following.stood_calm

pub returns-clause-nothing_by : goal.returns-clause-nothing_by
returns-clause-nothing_by c = FollowingBy.once_so

pub returns-clause-kept_by : goal.returns-clause-kept_by
returns-clause-kept_by c = FollowingBy.stood_calm

pub returns-clause-wakes : goal.returns-clause-wakes
returns-clause-wakes c = FollowingBy.wake_late

pub returns-clause-high : goal.returns-clause-high
returns-clause-high c = Following.empty_kept
