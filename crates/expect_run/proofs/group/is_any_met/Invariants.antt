use Rattle.std.proofs.Common.{◌≡◌, length, map}
use Rattle.std.specs.List.{flat_map, list_any}
use Rattle.expect_judge.specs.Told.{round_as}
use Rattle.expect_run.specs.Kept.{watch_as}
use Rattle.expect_run.specs.Groups.{is_known_met}
use Rattle.expect_run.proofs.group.is_any_met.Given as goal

-- none of the groups before has one that is met
abbrev pub invariant-groups : goal.invariant-groups
invariant-groups l = list_any (is_known_met (round_as l.round)) (flat_map (λ group. map watch_as group.watches.items) l.groups)
    ≡ list_any (is_known_met (round_as l.round)) (flat_map (λ group. map watch_as group.watches.items) l.rest)

abbrev pub decreases-groups : goal.decreases-groups
decreases-groups l = length l.rest
