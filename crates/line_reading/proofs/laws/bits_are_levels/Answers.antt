use Rattle.line_reading.proofs.Wider as Wider
use Rattle.line_reading.proofs.laws.bits_are_levels.Goals as goal

pub returns : goal.returns
returns c = Wider.bits_are_levels
