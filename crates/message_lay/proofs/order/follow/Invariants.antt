use Rattle.std.proofs.Common.{◌≡◌, drop}
use Rattle.message_lay.specs.Text.{follow}
use Rattle.message_lay.proofs.order.follow.Given as goal

-- what is left decides
abbrev pub invariant-loop-pull : goal.invariant-loop-pull
invariant-loop-pull l = follow l.next (drop l.pull-index l.pulls) ≡ follow l.free l.pulls
