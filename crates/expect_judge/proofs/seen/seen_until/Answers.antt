use Rattle.std.proofs.Common.{◌≡◌, [], length, map, ap, sym, ◌∙◌, arith}
use Rattle.expect_judge.specs.Told.{round_as}
use Rattle.expect_judge.specs.Seen.{ends_seen, or_first}
use Rattle.expect_judge.proofs.Ordered.{none_after, or_none}
use Rattle.expect_judge.proofs.seen.seen_until.Goals as goal

pub returns-then-span-round-clause-count : goal.returns-then-span-round-clause-count
returns-then-span-round-clause-count c =
    let none : ends_seen (map round_as c.rounds.rest.now) c.args.span c.args.pattern.now ≡ [] =
    none_after c.rounds.rest.now _ c.args.span c.args.pattern.now c.rounds.invariant.in_order (omega (arith, c.in-len1-up.len_at_least)) c.if-span-round.true in
    omega (arith, c.rounds.invariant.count, ap length none)

pub returns-then-span-round-clause-first : goal.returns-then-span-round-clause-first
returns-then-span-round-clause-first c =
    let none : ends_seen (map round_as c.rounds.rest.now) c.args.span c.args.pattern.now ≡ [] =
    none_after c.rounds.rest.now _ c.args.span c.args.pattern.now c.rounds.invariant.in_order (omega (arith, c.in-len1-up.len_at_least)) c.if-span-round.true in
    or_none c.rounds.found ∙ ap (or_first c.rounds.found) (sym none) ∙ c.rounds.invariant.first
