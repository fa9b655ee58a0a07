use Rattle.line_rounds.proofs.Early as Early
use Rattle.line_rounds.proofs.Holding as Holding
use Rattle.line_rounds.proofs.laws.followers_let_go.Goals as goal

pub returns-clause-acknowledges : goal.returns-clause-acknowledges
returns-clause-acknowledges c = Early.no_acks

pub returns-clause-breaks : goal.returns-clause-breaks
returns-clause-breaks c = Holding.breaks_now
