use Rattle.live_session.proofs.EdgesStay as EdgesStay
use Rattle.live_session.proofs.laws.pinned_edges_stay.Goals as goal

pub returns : goal.returns
returns c = EdgesStay.pinned_edges_stay
