use Rattle.expect_judge.proofs.Ordered.{none_from}
use Rattle.expect_judge.proofs.seen.ended_after.Goals as goal

pub returns : goal.returns
returns c = λ h pattern. none_from c.args.rounds.now c.args.place _ c.args.span pattern c.requires.in_order c.requires.within h
