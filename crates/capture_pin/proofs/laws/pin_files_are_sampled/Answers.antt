use Rattle.capture_pin.proofs.Sampled as lemmas
use Rattle.capture_pin.proofs.laws.pin_files_are_sampled.Goals as goal

pub returns : goal.returns
returns c = lemmas.pin_files_are_sampled
