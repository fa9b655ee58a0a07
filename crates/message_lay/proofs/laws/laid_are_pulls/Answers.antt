use Rattle.message_lay.proofs.Bounded.{laid_are_pulls}
use Rattle.message_lay.proofs.laws.laid_are_pulls.Goals as goal

pub returns : goal.returns
returns c = laid_are_pulls
