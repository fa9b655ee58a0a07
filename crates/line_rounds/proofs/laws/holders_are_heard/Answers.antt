use Rattle.line_rounds.proofs.Polled as Polled
use Rattle.line_rounds.proofs.laws.holders_are_heard.Goals as goal

pub returns : goal.returns
returns c = Polled.holders_are_heard
