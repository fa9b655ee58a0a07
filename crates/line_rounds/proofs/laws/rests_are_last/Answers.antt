use Rattle.line_rounds.proofs.Lows as Lows
use Rattle.line_rounds.proofs.Lasting as Lasting
use Rattle.line_rounds.proofs.laws.rests_are_last.Goals as goal

pub returns-clause-wide : goal.returns-clause-wide
returns-clause-wide c = Lows.wave_wide

pub returns-clause-rises : goal.returns-clause-rises
returns-clause-rises c = Lasting.rest_rises

pub returns-clause-past : goal.returns-clause-past
returns-clause-past c = Lasting.rest_past
