use Rattle.line_wave.proofs.Kept as Kept
use Rattle.line_wave.proofs.laws.sparse_are_waves.Goals as goal

pub returns : goal.returns
returns c = Kept.sparse_wave
