use Rattle.line_rounds.proofs.Edge as Edge
use Rattle.line_rounds.proofs.laws.round_below.Goals as goal

pub returns : goal.returns
returns c = Edge.round_below
