use Rattle.capture_laws.proofs.ReadBack as lemmas
use Rattle.capture_laws.proofs.laws.edge_files_are_read_back.Goals as goal

pub returns : goal.returns
returns c = lemmas.edge_files_are_read_back
