use Rattle.room_run.proofs.Advance as Advance
use Rattle.room_run.proofs.laws.totals_count_turns.Goals as goal

pub returns-clause-rounds : goal.returns-clause-rounds
returns-clause-rounds c = Advance.rounds_kept

pub returns-clause-complete : goal.returns-clause-complete
returns-clause-complete c = Advance.complete_kept

pub returns-clause-refused : goal.returns-clause-refused
returns-clause-refused c = Advance.refused_kept

pub returns-clause-counts : goal.returns-clause-counts
returns-clause-counts c = Advance.counts_brought
