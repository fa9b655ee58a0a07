use Rattle.capture_vcd.proofs.Sampled as lemmas
use Rattle.capture_vcd.proofs.laws.dumps_are_sampled.Goals as goal

pub returns : goal.returns
returns c = lemmas.dumps_are_sampled
