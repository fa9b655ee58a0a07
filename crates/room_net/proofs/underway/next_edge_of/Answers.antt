use Rattle.room_net.proofs.InRound.{takes_on}
use Rattle.room_net.proofs.underway.next_edge_of.Goals as goal

pub next_edge_among-requires-clause-begun : goal.next_edge_among-requires-clause-begun
next_edge_among-requires-clause-begun c = c.requires.takes.stands

pub next_edge_among-requires-clause-pulls : goal.next_edge_among-requires-clause-pulls
next_edge_among-requires-clause-pulls c = c.requires.takes.pulls

pub returns-clause-takes : goal.returns-clause-takes
returns-clause-takes c =
    let e = c.next_edge_among.ensures in takes_on c.args.pulses.now c.next_edge_among.new.self e.begun e.pulls

pub returns-clause-edge : goal.returns-clause-edge
returns-clause-edge c = c.next_edge_among.ensures.edge
