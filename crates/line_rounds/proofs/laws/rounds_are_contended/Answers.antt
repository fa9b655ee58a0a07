use Rattle.line_rounds.proofs.Lasting as Lasting
use Rattle.line_rounds.proofs.Early as Early
use Rattle.line_rounds.proofs.laws.rounds_are_contended.Goals as goal

pub returns-clause-contended : goal.returns-clause-contended
returns-clause-contended c = Lasting.contended

pub returns-clause-stays : goal.returns-clause-stays
returns-clause-stays c = Early.sender_low

pub returns-clause-begins : goal.returns-clause-begins
returns-clause-begins c = Lasting.low_at_begin
