use Rattle.capture_pin.proofs.Sampled as lemmas
use Rattle.capture_pin.proofs.laws.pin_lines_are_early.Goals as goal

pub returns : goal.returns
returns c = lemmas.pin_lines_are_early
