use Rattle.conversion_fit.proofs.Law.{law}
use Rattle.conversion_fit.proofs.laws.nothing_is_beyond.Goals as goal

pub returns : goal.returns
returns c = law
