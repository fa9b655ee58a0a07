use Rattle.capture_core.proofs.Recording as Recording
use Rattle.capture_core.proofs.laws.tracks_record_what_is_told.Goals as goal

pub returns-clause-end : goal.returns-clause-end
returns-clause-end c = Recording.records_end

pub returns-clause-level : goal.returns-clause-level
returns-clause-level c = Recording.records_level

pub returns-clause-moved : goal.returns-clause-moved
returns-clause-moved c = Recording.records_moved

pub returns-clause-capture : goal.returns-clause-capture
returns-clause-capture c = Recording.records_capture

pub returns-clause-line : goal.returns-clause-line
returns-clause-line c = Recording.records_line
