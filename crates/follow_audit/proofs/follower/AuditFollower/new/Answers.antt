use Rattle.std.proofs.Common.{false, refl}
use Rattle.follow_audit.proofs.Audited.{all_told}
use Rattle.follow_audit.proofs.Followed.{first_prompt, followed_first}
use Rattle.follow_audit.proofs.follower.AuditFollower.new.Goals as goal

pub returns-clause-followed : goal.returns-clause-followed
returns-clause-followed c = λ signal.
    followed_first c.edge_lines_go_on.ensures c.pin_lines_go_on.ensures c.csv_lines_go_on.ensures c.args.form signal c.args.how c.args.view _ (c.new.ensures.first signal) c.new.ensures.shortest c.new-2.ensures.untold c.new-3.ensures.audited c.new-3.ensures.view refl

pub returns-clause-prompt : goal.returns-clause-prompt
returns-clause-prompt c = first_prompt (record { lines = c.new.result; teller = c.new-2.result; listener = c.new-3.result; remarked = false }) c.new.ensures.from (all_told c.new-3.result c.new-3.ensures.none)
