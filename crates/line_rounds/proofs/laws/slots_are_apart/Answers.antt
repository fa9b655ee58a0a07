use Rattle.line_rounds.proofs.Lasting as Lasting
use Rattle.line_rounds.proofs.Spans as Spans
use Rattle.line_rounds.proofs.Walk as Walk
use Rattle.line_rounds.proofs.laws.slots_are_apart.Goals as goal

pub returns-clause-begins : goal.returns-clause-begins
returns-clause-begins c = Lasting.begun_by

pub returns-clause-spans : goal.returns-clause-spans
returns-clause-spans c = Spans.reading_spans

pub returns-clause-next : goal.returns-clause-next
returns-clause-next c = Walk.next_falls
