use Rattle.follow_core.proofs.Told.{tells_passed}
use Rattle.follow_core.proofs.teller.Teller.pass.Goals as goal

pub returns : goal.returns
returns c = tells_passed c.args.self.now c.edge-first.new.self c.edge-second.new.self c.args.passed (record { first = c.edge-first.result; second = c.edge-second.result }) c.edge-first.ensures c.edge-second.ensures
