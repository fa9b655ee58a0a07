use Rattle.std.proofs.Common.{◌≡◌, ℕ, ◌-◌, ◌≤◌, List, length, map, take}
use Rattle.expect_judge.specs.Told.{round_as}
use Rattle.expect_judge.specs.Seen.{rounds_seen}
use Rattle.expect_judge.proofs.seen.last_place.Given as goal

-- none of the rounds from the end on is seen
abbrev pub invariant-halves : goal.invariant-halves
invariant-halves l = record {
  same : (pattern : List ℕ) → rounds_seen (map round_as (take l.end l.rounds)) l.span pattern ≡ rounds_seen (map round_as l.rounds) l.span pattern;
  within : l.end ≤ length l.rounds;
}

abbrev pub decreases-halves : goal.decreases-halves
decreases-halves l = l.end - l.start
