use Rattle.record_core.proofs.Parts.{parted}
use Rattle.record_core.proofs.laws.lines_have_parts.Goals as goal

pub returns : goal.returns
returns c = parted
