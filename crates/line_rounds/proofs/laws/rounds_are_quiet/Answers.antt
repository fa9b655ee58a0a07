use Rattle.line_rounds.proofs.Still as Still
use Rattle.line_rounds.proofs.Afterwards as Afterwards
use Rattle.line_rounds.proofs.laws.rounds_are_quiet.Goals as goal

pub returns-clause-before : goal.returns-clause-before
returns-clause-before c = Still.high_before

pub returns-clause-falls : goal.returns-clause-falls
returns-clause-falls c = Afterwards.no_fall_after

pub returns-clause-pulses : goal.returns-clause-pulses
returns-clause-pulses c = Still.pulse_only

pub returns-clause-sparse : goal.returns-clause-sparse
returns-clause-sparse c = Still.high_sparse
