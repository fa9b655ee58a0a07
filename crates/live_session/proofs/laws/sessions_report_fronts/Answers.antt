use Rattle.live_session.proofs.Wholly as Wholly
use Rattle.live_session.proofs.laws.sessions_report_fronts.Goals as goal

pub returns : goal.returns
returns c = Wholly.sessions_report_fronts
