use Rattle.live_session.proofs.Kept as Kept
use Rattle.live_session.proofs.laws.sessions_report_traces_of.Goals as goal

pub returns : goal.returns
returns c = Kept.sessions_report_traces_of
