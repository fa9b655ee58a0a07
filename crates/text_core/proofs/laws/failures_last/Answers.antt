use Rattle.text_core.proofs.Adding as Adding
use Rattle.text_core.proofs.laws.failures_last.Goals as goal

pub returns-clause-cut_short : goal.returns-clause-cut_short
returns-clause-cut_short c = Adding.cut_short

pub returns-clause-after_failure : goal.returns-clause-after_failure
returns-clause-after_failure c = Adding.after_failure

pub returns-clause-not_yet : goal.returns-clause-not_yet
returns-clause-not_yet c = Adding.not_yet
