use Rattle.edid_base.proofs.OneTiming.{one_timing}
use Rattle.edid_base.proofs.laws.one_spelling_of_timings.Goals as goal

pub returns : goal.returns
returns c = one_timing
