use Rattle.line_wave.proofs.Kept.{left_timely}
use Rattle.line_wave.proofs.pulls.Pulls.as_slice.Goals as goal

pub returns-clause-timely : goal.returns-clause-timely
returns-clause-timely c = rw c.deref.ensures.0 (left_timely c.self.inside.gone c.self.inside.stretches.items c.self.invariant.2)
