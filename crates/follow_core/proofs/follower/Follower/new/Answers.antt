use Rattle.std.proofs.Common.{arith}
use Rattle.follow_core.proofs.Followed.{followed_first}
use Rattle.follow_core.proofs.follower.Follower.new.Goals as goal

pub returns-clause-followed : goal.returns-clause-followed
returns-clause-followed c = λ signal view.
    followed_first c.edge_lines_go_on.ensures c.pin_lines_go_on.ensures c.csv_lines_go_on.ensures c.args.form signal view c.args.how _ (c.new.ensures.first signal) c.new.ensures.shortest c.new-2.ensures.untold
    c.new-3.ensures.held c.new-3.ensures.run

pub returns-clause-prompt : goal.returns-clause-prompt
returns-clause-prompt c = let from = c.new.ensures.from in omega (arith, from)
