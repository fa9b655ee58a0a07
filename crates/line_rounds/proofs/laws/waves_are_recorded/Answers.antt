use Rattle.line_rounds.proofs.Records as Records
use Rattle.line_rounds.proofs.laws.waves_are_recorded.Goals as goal

pub returns-clause-first : goal.returns-clause-first
returns-clause-first c = Records.record_first

pub returns-clause-step : goal.returns-clause-step
returns-clause-step c = Records.record_step

pub returns-clause-ready : goal.returns-clause-ready
returns-clause-ready c = Records.is_ready

pub returns-clause-ends : goal.returns-clause-ends
returns-clause-ends c = Records.no_line
