use Rattle.line_wave.proofs.Sparse as Sparse
use Rattle.line_wave.proofs.laws.faultless_are_sparse.Goals as goal

pub returns : goal.returns
returns c = Sparse.faultless_are_sparse
