use Rattle.line_wave.proofs.Kept as Kept
use Rattle.line_wave.proofs.laws.some_of_a_wave_are_one.Goals as goal

pub returns : goal.returns
returns c = Kept.wave_filter
