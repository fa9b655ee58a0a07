use Rattle.room_run.proofs.Accepted as Accepted
use Rattle.room_run.proofs.laws.accepted_texts_fit_runs.Goals as goal

pub returns-clause-early : goal.returns-clause-early
returns-clause-early c = Accepted.early

pub returns-clause-ends : goal.returns-clause-ends
returns-clause-ends c = Accepted.ends_early

pub returns-clause-device : goal.returns-clause-device
returns-clause-device c = Accepted.has_device

pub returns-clause-trace : goal.returns-clause-trace
returns-clause-trace c = Accepted.one_trace_of
