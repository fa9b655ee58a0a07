use Rattle.live_session.proofs.Foreseeing.{foreseen}
use Rattle.live_session.proofs.foreseen.run_ahead.Goals as goal

pub returns-clause-known : goal.returns-clause-known
returns-clause-known c = foreseen c.args.net.now c.args.begin c.outcome_at-outcome.result c.requires.begins c.outcome_at-outcome.ensures.wave c.outcome_at-outcome.ensures.round c.outcome_at-outcome.ensures.progress
