use Rattle.audit_core.proofs.OneLine.{named, worded}
use Rattle.audit_core.proofs.laws.words_without_a_line_feed.Goals as goal

pub returns-clause-named : goal.returns-clause-named
returns-clause-named c = named

pub returns-clause-worded : goal.returns-clause-worded
returns-clause-worded c = worded
