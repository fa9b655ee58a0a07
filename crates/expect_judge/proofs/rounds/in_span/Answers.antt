use Rattle.std.proofs.Common.{◌≡◌, List, true, subst, sym}
use Rattle.expect_judge.specs.Index.{are_in_order}
use Rattle.expect_judge.specs.declared.lines.RoundLine.{RoundLine as RoundRead}
use Rattle.expect_judge.proofs.Ordered.{still_in_order}
use Rattle.expect_judge.proofs.rounds.in_span.Goals as goal

pub last_place-requires : goal.last_place-requires
last_place-requires c =
    subst (λ (rs : List RoundRead). are_in_order rs ≡ true) (sym c.split_at.ensures.back) (still_in_order c.args.rounds.now c.first_place.result c.requires)
