use Rattle.capture_pin.proofs.ReadBack as lemmas
use Rattle.capture_pin.proofs.laws.pin_files_are_read_back.Goals as goal

pub returns : goal.returns
returns c = lemmas.pin_files_are_read_back
