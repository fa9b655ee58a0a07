use Rattle.capture_monitor.proofs.ReadEdges as lemmas
use Rattle.capture_monitor.proofs.laws.edge_lines_go_on.Goals as goal

pub returns : goal.returns
returns c = lemmas.edge_lines_go_on
