use Rattle.std.proofs.Common.{rules}
use Rattle.live_session.proofs.Foreseeing.{close_on, ended_on}
use Rattle.live_session.proofs.foreseen.Foreseen.is_on.Goals as goal

pub returns-then-ended-clause-on : goal.returns-then-ended-clause-on
returns-then-ended-clause-on c = ended_on c.args.ended c.args.until c.args.begin c.args.self.now (search rules)

pub returns-clause-on : goal.returns-clause-on
returns-clause-on c = close_on c.args.ended c.args.until c.args.begin c.next_close.result c.args.self.now (search rules) c.next_close.ensures.close
