use Rattle.text_core.proofs.LineLemmas as LineLemmas
use Rattle.text_core.proofs.laws.lists_are_parted.Goals as goal

pub returns-clause-none : goal.returns-clause-none
returns-clause-none c = LineLemmas.split_none

pub returns-clause-some : goal.returns-clause-some
returns-clause-some c = LineLemmas.split_some
