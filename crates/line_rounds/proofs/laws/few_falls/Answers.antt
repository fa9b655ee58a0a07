use Rattle.line_rounds.proofs.Few as Few
use Rattle.line_rounds.proofs.laws.few_falls.Goals as goal

pub returns-clause-begins : goal.returns-clause-begins
returns-clause-begins c = Few.each_fall_begins

pub returns-clause-few : goal.returns-clause-few
returns-clause-few c = Few.few_falls

pub returns-clause-wave : goal.returns-clause-wave
returns-clause-wave c = Few.wave_fits

pub returns-clause-round : goal.returns-clause-round
returns-clause-round c = Few.round_fits
