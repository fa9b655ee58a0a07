use Rattle.capture_core.proofs.Moving as Moving
use Rattle.capture_core.proofs.Recording as Recording
use Rattle.capture_core.proofs.laws.tracks_tell_turns.Goals as goal

pub returns-clause-at : goal.returns-clause-at
returns-clause-at c = Recording.moved_at

pub returns-clause-reported : goal.returns-clause-reported
returns-clause-reported c = Moving.move_reported

pub returns-clause-kept : goal.returns-clause-kept
returns-clause-kept c = Moving.move_kept

pub returns-clause-same : goal.returns-clause-same
returns-clause-same c = Moving.move_same
