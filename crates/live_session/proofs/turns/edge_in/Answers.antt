use Rattle.live_session.proofs.Edging.{edge_in_round}
use Rattle.live_session.proofs.turns.edge_in.Goals as goal

pub returns-clause-edge : goal.returns-clause-edge
returns-clause-edge c =
    edge_in_round c.args.net.now c.next_edge-edge.new.self c.args.begin c.args.from c.args.until c.next_close.result c.edge_horizon.result c.args.pin c.next_edge-edge.result c.next_edge-edge.ensures.same
    c.next_edge-edge.ensures.edge c.next_close.ensures.close c.edge_horizon.ensures.horizon
