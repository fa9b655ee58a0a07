use Rattle.std.proofs.Common.{◌≡◌, List, length, map, drop, ap, ◌∙◌, sym, subst, true}
use Rattle.expect_judge.specs.Told.{round_as}
use Rattle.expect_judge.specs.Seen.{ends_seen, first_of}
use Rattle.expect_judge.specs.Index.{are_in_order}
use Rattle.expect_judge.specs.declared.lines.RoundLine.{RoundLine as RoundRead}
use Rattle.expect_judge.proofs.Ordered.{same_ends, still_in_order}
use Rattle.expect_judge.proofs.seen.rounds_in_order_seen.Goals as goal

pub seen_until-requires : goal.seen_until-requires
seen_until-requires c =
    subst (λ (rs : List RoundRead). are_in_order rs ≡ true) (sym c.split_at.ensures.back) (still_in_order c.args.rounds.now c.first_place.result c.requires)

pub returns-clause-count : goal.returns-clause-count
returns-clause-count c =
    c.seen_until.ensures.count ∙ ap (λ (rs : List RoundRead). length (ends_seen (map round_as rs) c.args.span c.args.pattern.now)) c.split_at.ensures.back
    ∙ ap length (same_ends (map round_as (drop c.first_place.result c.args.rounds.now)) (map round_as c.args.rounds.now) c.args.span c.args.pattern.now (c.first_place.ensures.same c.args.pattern.now))

pub returns-clause-first : goal.returns-clause-first
returns-clause-first c =
    c.seen_until.ensures.first ∙ ap (λ (rs : List RoundRead). first_of (ends_seen (map round_as rs) c.args.span c.args.pattern.now)) c.split_at.ensures.back
    ∙ ap first_of (same_ends (map round_as (drop c.first_place.result c.args.rounds.now)) (map round_as c.args.rounds.now) c.args.span c.args.pattern.now (c.first_place.ensures.same c.args.pattern.now))
