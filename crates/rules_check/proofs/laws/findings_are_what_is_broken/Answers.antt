use Rattle.rules_check.proofs.LawLemmas.{law}
use Rattle.rules_check.proofs.laws.findings_are_what_is_broken.Goals as goal

pub returns : goal.returns
returns c = law
