use Rattle.line_rounds.proofs.Polled as Polled
use Rattle.line_rounds.proofs.laws.free_is_read.Goals as goal

pub returns : goal.returns
returns c = Polled.free_is_read
