use Rattle.line_wave.proofs.Kept.{left_sparse, sparse_wave}
use Rattle.line_wave.proofs.pulses.Pulses.as_slice.Goals as goal

pub returns-clause-sparse : goal.returns-clause-sparse
returns-clause-sparse c = rw c.deref.ensures.0 (left_sparse c.self.inside.gone c.self.inside.stretches.items c.self.invariant.1)

pub returns-clause-wave : goal.returns-clause-wave
returns-clause-wave c = sparse_wave _ (rw c.deref.ensures.0 (left_sparse c.self.inside.gone c.self.inside.stretches.items c.self.invariant.1))
