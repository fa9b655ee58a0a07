use Rattle.std.proofs.Common.{◌≡◌, ◌≤◌, ◌-◌, ◌++◌, drop, length}
use Rattle.message_lay.specs.Faults.{joined_with, with_pull}
use Rattle.message_lay.proofs.glitch.with_pull.Given as goal

-- the stretches before the pull, and the others with it
abbrev pub invariant-passed : goal.invariant-passed
invariant-passed l = record {
  laid : l.pulls.items ++ with_pull l.own (drop l.index l.stretches) ≡ with_pull l.fn.pull l.stretches;
  count : length l.pulls.items ≡ l.index;
  within : l.index ≤ length l.stretches;
}

abbrev pub decreases-passed : goal.decreases-passed
decreases-passed l = length l.stretches - l.index

-- the stretches before the pull, and what it is joined with so far
abbrev pub invariant-met : goal.invariant-met
invariant-met l = record {
  laid : l.pulls.items ++ joined_with l.own (drop l.index l.stretches) ≡ with_pull l.fn.pull l.stretches;
  count : length l.pulls.items ≤ l.index;
  within : l.index ≤ length l.stretches;
}

abbrev pub decreases-met : goal.decreases-met
decreases-met l = length l.stretches - l.index
