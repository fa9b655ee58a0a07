use Rattle.capture_laws.proofs.ReadBack as ReadBack
use Rattle.capture_laws.proofs.laws.scripts_are_over.Goals as goal

pub returns : goal.returns
returns c = ReadBack.over_by_script
