use Rattle.line_wave.proofs.Waves as Waves
use Rattle.line_wave.proofs.laws.waves_fall_and_rise.Goals as goal

pub returns-clause-falls : goal.returns-clause-falls
returns-clause-falls c = Waves.falls_of_wave

pub returns-clause-rises : goal.returns-clause-rises
returns-clause-rises c = Waves.rises_of_wave

pub returns-clause-quiet : goal.returns-clause-quiet
returns-clause-quiet c = Waves.quiet

pub returns-clause-none_begins : goal.returns-clause-none_begins
returns-clause-none_begins c = Waves.no_begin
