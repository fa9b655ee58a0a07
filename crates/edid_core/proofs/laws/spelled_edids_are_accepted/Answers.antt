use Rattle.edid_core.proofs.OneEdid.{length_fits, count_fits, not_refused}
use Rattle.edid_core.proofs.laws.spelled_edids_are_accepted.Goals as goal

pub returns-clause-whole : goal.returns-clause-whole
returns-clause-whole c = length_fits

pub returns-clause-count : goal.returns-clause-count
returns-clause-count c = count_fits

pub returns-clause-accepted : goal.returns-clause-accepted
returns-clause-accepted c = not_refused
