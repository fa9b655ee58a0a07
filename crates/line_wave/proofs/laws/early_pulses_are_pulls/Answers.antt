use Rattle.line_wave.proofs.Kept as Kept
use Rattle.line_wave.proofs.laws.early_pulses_are_pulls.Goals as goal

pub returns : goal.returns
returns c = Kept.sparse_timely
