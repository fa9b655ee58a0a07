use Rattle.live_session.proofs.EdgesStay as EdgesStay
use Rattle.live_session.proofs.laws.edges_stay.Goals as goal

pub returns : goal.returns
returns c = EdgesStay.edges_stay
