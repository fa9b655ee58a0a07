use Rattle.text_core.proofs.Adding as Adding
use Rattle.text_core.proofs.laws.texts_add_up.Goals as goal

pub returns-clause-then : goal.returns-clause-then
returns-clause-then c = Adding.then

pub returns-clause-nothing : goal.returns-clause-nothing
returns-clause-nothing c = Adding.nothing
