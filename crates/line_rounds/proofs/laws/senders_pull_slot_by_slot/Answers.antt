use Rattle.line_rounds.proofs.Lays as Lays
use Rattle.line_rounds.proofs.Lows as Lows
use Rattle.line_rounds.proofs.laws.senders_pull_slot_by_slot.Goals as goal

pub returns-clause-before : goal.returns-clause-before
returns-clause-before c = Lays.before_start

pub returns-clause-start : goal.returns-clause-start
returns-clause-start c = Lays.start_at

pub returns-clause-after : goal.returns-clause-after
returns-clause-after c = Lays.after_start

pub returns-clause-early : goal.returns-clause-early
returns-clause-early c = Lows.before_slots

pub returns-clause-slot : goal.returns-clause-slot
returns-clause-slot c = Lays.slot_at

pub returns-clause-any : goal.returns-clause-any
returns-clause-any c = Lays.slot_or_none
