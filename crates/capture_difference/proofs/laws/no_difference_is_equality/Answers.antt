use Rattle.capture_difference.proofs.Differing as lemmas
use Rattle.capture_difference.proofs.laws.no_difference_is_equality.Goals as goal

pub returns : goal.returns
returns c = lemmas.no_difference_is_equality
