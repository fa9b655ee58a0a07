use Rattle.line_rounds.proofs.Spans as Spans
use Rattle.line_rounds.proofs.Polled as Polled
use Rattle.line_rounds.proofs.laws.bits_come_in_order.Goals as goal

pub returns-clause-more : goal.returns-clause-more
returns-clause-more c = Spans.bits_more

pub returns-clause-slots : goal.returns-clause-slots
returns-clause-slots c = Spans.reported_all

pub returns-clause-bits : goal.returns-clause-bits
returns-clause-bits c = Polled.reported_bits
