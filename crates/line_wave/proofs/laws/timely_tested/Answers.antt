use Rattle.line_wave.proofs.Kept as Kept
use Rattle.line_wave.proofs.laws.timely_tested.Goals as goal

pub returns : goal.returns
returns c = Kept.timely_tested
