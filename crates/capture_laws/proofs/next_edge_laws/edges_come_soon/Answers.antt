use Rattle.capture_laws.proofs.Stays as lemmas
use Rattle.capture_laws.proofs.next_edge_laws.edges_come_soon.Goals as goal

pub returns : goal.returns
returns c = lemmas.edges_come_soon
