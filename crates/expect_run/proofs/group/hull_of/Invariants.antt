use Rattle.std.proofs.Common.{◌≡◌, length, map}
use Rattle.expect_run.specs.Kept.{watch_as}
use Rattle.expect_run.specs.Groups.{hull_from, no_span}
use Rattle.expect_run.proofs.group.hull_of.Given as goal

-- with those that are left it is the span of all
abbrev pub invariant-watches : goal.invariant-watches
invariant-watches l = hull_from l.hull (map watch_as l.rest) ≡ hull_from no_span (map watch_as l.watches)

abbrev pub decreases-watches : goal.decreases-watches
decreases-watches l = length l.rest
