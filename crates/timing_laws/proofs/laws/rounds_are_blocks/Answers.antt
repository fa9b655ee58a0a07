use Rattle.timing_laws.proofs.Blocks.{rounds_are_blocks}
use Rattle.timing_laws.proofs.laws.rounds_are_blocks.Goals as goal

pub returns : goal.returns
returns c = rounds_are_blocks
