use Rattle.capture_laws.proofs.Names as Names
use Rattle.capture_laws.proofs.drive_laws.names_stay.Goals as goal

pub returns-clause-queued : goal.returns-clause-queued
returns-clause-queued c = Names.name-queued

pub returns-clause-reported : goal.returns-clause-reported
returns-clause-reported c = Names.name-reported_by

pub returns-clause-moved : goal.returns-clause-moved
returns-clause-moved c = Names.names-each
