use Rattle.follow_audit.proofs.Audited.{takes_maybe}
use Rattle.follow_audit.proofs.listener.Listener.take_passed.Goals as goal

pub returns : goal.returns
returns c = takes_maybe c.args.self.now c.take.new.self c.take-2.new.self c.args.passed.first c.args.passed.second c.take-2.result c.in_ok-take.ensures c.take-2.ensures
