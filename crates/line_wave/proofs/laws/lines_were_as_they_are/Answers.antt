use Rattle.line_wave.proofs.Waves as Waves
use Rattle.line_wave.proofs.laws.lines_were_as_they_are.Goals as goal

pub returns : goal.returns
returns c = Waves.was_now
