use Rattle.capture_core.proofs.Bytes as Bytes
use Rattle.capture_core.proofs.Decimals as Decimals
use Rattle.capture_core.proofs.laws.decimals_are_read_again.Goals as goal

pub returns-clause-decimals : goal.returns-clause-decimals
returns-clause-decimals c = Decimals.decimals_again

pub returns-clause-dot : goal.returns-clause-dot
returns-clause-dot c = Bytes.dot_at
