use Rattle.std.proofs.Common.{◌≡◌, ◌-◌, ◌++◌, ◌≤◌, drop, length, map}
use Rattle.std.specs.List.{flat_map}
use Rattle.expect_run.specs.Kept.{watch_as}
use Rattle.expect_run.proofs.group.groups_of.Given as goal

-- those in groups, and those that are left
abbrev pub invariant-groups : goal.invariant-groups
invariant-groups l = record {
  same : flat_map (λ group. map watch_as group.watches.items) l.groups.items ++ map watch_as (drop l.start l.watches) ≡ map watch_as l.watches;
  within : l.start ≤ length l.watches;
}

abbrev pub decreases-groups : goal.decreases-groups
decreases-groups l = length l.watches - l.start
