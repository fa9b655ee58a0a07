use Rattle.line_rounds.proofs.Early as Early
use Rattle.line_rounds.proofs.Inside as Inside
use Rattle.line_rounds.proofs.laws.more_bits_change_nothing.Goals as goal

pub returns-clause-destination : goal.returns-clause-destination
returns-clause-destination c = Early.destination_more

pub returns-clause-leaves : goal.returns-clause-leaves
returns-clause-leaves c = Early.leaves_more

pub returns-clause-stays : goal.returns-clause-stays
returns-clause-stays c = Inside.stays_by
