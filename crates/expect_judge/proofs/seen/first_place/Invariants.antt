use Rattle.std.proofs.Common.{◌≡◌, ℕ, ◌+◌, ◌≤◌, List, length, map, drop}
use Rattle.expect_judge.specs.Told.{round_as}
use Rattle.expect_judge.specs.Seen.{rounds_seen}
use Rattle.expect_judge.proofs.seen.first_place.Given as goal

-- none of the rounds before the start is seen; the one that is looked for is among so many from there
abbrev pub invariant-halves : goal.invariant-halves
invariant-halves l = record {
  same : (pattern : List ℕ) → rounds_seen (map round_as (drop l.start l.rounds)) l.span pattern ≡ rounds_seen (map round_as l.rounds) l.span pattern;
  within : l.start + l.width ≤ length l.rounds;
}

abbrev pub decreases-halves : goal.decreases-halves
decreases-halves l = l.width
