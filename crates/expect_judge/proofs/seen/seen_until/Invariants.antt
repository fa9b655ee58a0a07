use Rattle.std.proofs.Common.{◌≡◌, ◌+◌, ◌≤◌, true, length, map}
use Rattle.expect_judge.specs.Told.{round_as}
use Rattle.expect_judge.specs.Seen.{ends_seen, first_of, or_first}
use Rattle.expect_judge.specs.Index.{are_in_order}
use Rattle.expect_judge.proofs.seen.seen_until.Given as goal

-- those seen so far, and those that are left
abbrev pub invariant-rounds : goal.invariant-rounds
invariant-rounds l = record {
  in_order : are_in_order l.rest ≡ true;
  count : l.count + length (ends_seen (map round_as l.rest) l.span l.pattern) ≡ length (ends_seen (map round_as l.rounds) l.span l.pattern);
  first : or_first l.found (ends_seen (map round_as l.rest) l.span l.pattern) ≡ first_of (ends_seen (map round_as l.rounds) l.span l.pattern);
  room : l.count + length l.rest ≤ length l.rounds;
}

abbrev pub decreases-rounds : goal.decreases-rounds
decreases-rounds l = length l.rest
