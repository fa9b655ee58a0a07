use Rattle.line_reading.proofs.AlongBy as AlongBy
use Rattle.line_reading.proofs.laws.slots_are_reached_in_order.Goals as goal

pub returns-clause-sampled : goal.returns-clause-sampled
returns-clause-sampled c = AlongBy.over_sampled

pub returns-clause-last : goal.returns-clause-last
returns-clause-last c = AlongBy.ends_so

pub returns-clause-known : goal.returns-clause-known
returns-clause-known c = AlongBy.known_ending
