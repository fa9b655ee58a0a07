use Rattle.capture_laws.proofs.Formats as lemmas
use Rattle.capture_laws.proofs.laws.lines_are_read_back.Goals as goal

pub returns : goal.returns
returns c = lemmas.lines_are_read_back
