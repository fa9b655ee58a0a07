use Rattle.capture_vcd.proofs.ReadBack as lemmas
use Rattle.capture_vcd.proofs.laws.dumps_are_read_back.Goals as goal

pub returns : goal.returns
returns c = lemmas.dumps_are_read_back
