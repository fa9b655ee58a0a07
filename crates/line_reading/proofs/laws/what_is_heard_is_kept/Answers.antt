use Rattle.line_reading.proofs.Keeping as Keeping
use Rattle.line_reading.proofs.KeepingBy as KeepingBy
use Rattle.line_reading.proofs.laws.what_is_heard_is_kept.Goals as goal

pub returns-clause-kept : goal.returns-clause-kept
returns-clause-kept c = Keeping.before_heard

pub returns-clause-reported : goal.returns-clause-reported
returns-clause-reported c = Keeping.reported_heard

pub returns-clause-kept_by : goal.returns-clause-kept_by
returns-clause-kept_by c = KeepingBy.before_heard

pub returns-clause-kept_on_by : goal.returns-clause-kept_on_by
returns-clause-kept_on_by c = KeepingBy.kept_heard

pub returns-clause-reported_by : goal.returns-clause-reported_by
returns-clause-reported_by c = KeepingBy.reported_heard
