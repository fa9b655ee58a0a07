use Rattle.capture_through.specs.Through.{passed_edges}
use Rattle.follow_audit.proofs.Audited.{takes_so}
use Rattle.follow_audit.proofs.listener.Listener.take_all.Goals as goal

pub returns : goal.returns
returns c = takes_so c.args.self.now c.take_passed.new.self c.take_passed-2.new.self (passed_edges c.args.passed.by_edge) (passed_edges c.args.passed.by_calm) c.take_passed-2.result c.in_ok-take_passed.ensures c.take_passed-2.ensures
