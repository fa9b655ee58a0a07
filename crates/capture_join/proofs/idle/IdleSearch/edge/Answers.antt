use Rattle.capture_join.specs.Joined.{idle_by}
use Rattle.capture_join.proofs.Search.{finds_edge, look_stays}
use Rattle.capture_join.proofs.idle.IdleSearch.edge.Goals as goal

pub returns-clause-finds : goal.returns-clause-finds
returns-clause-finds c = finds_edge c.args.self.now _ c.args.edge c.look.ensures.found c.since_of-self.ensures

pub returns-clause-stays : goal.returns-clause-stays
returns-clause-stays c = look_stays c.args.self.now.found c.look.new.self.found (idle_by c.args.self.now.high_since c.args.edge.at) c.look.ensures.found
