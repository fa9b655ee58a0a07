use Rattle.expect_judge.proofs.Ordered.{none_before}
use Rattle.expect_judge.proofs.seen.began_before.Goals as goal

pub returns : goal.returns
returns c = λ h pattern. none_before c.args.rounds.now c.args.place _ c.args.span pattern c.requires.in_order c.requires.within h
