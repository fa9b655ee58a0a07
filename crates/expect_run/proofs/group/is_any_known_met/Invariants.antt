use Rattle.std.proofs.Common.{◌≡◌, length, map}
use Rattle.std.specs.List.{list_any}
use Rattle.expect_judge.specs.Told.{round_as}
use Rattle.expect_run.specs.Kept.{watch_as}
use Rattle.expect_run.specs.Groups.{is_known_met}
use Rattle.expect_run.proofs.group.is_any_known_met.Given as goal

-- none before is met
abbrev pub invariant-watches : goal.invariant-watches
invariant-watches l = list_any (is_known_met (round_as l.round)) (map watch_as l.watches) ≡ list_any (is_known_met (round_as l.round)) (map watch_as l.rest)

abbrev pub decreases-watches : goal.decreases-watches
decreases-watches l = length l.rest
