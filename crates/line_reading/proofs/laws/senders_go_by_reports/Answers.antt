use Rattle.line_reading.proofs.Sent as Sent
use Rattle.line_reading.proofs.laws.senders_go_by_reports.Goals as goal

pub returns-clause-reports : goal.returns-clause-reports
returns-clause-reports c = Sent.reports_state

pub returns-clause-silence : goal.returns-clause-silence
returns-clause-silence c = Sent.stays_same

pub returns-clause-pulls : goal.returns-clause-pulls
returns-clause-pulls c = Sent.pulls_so
