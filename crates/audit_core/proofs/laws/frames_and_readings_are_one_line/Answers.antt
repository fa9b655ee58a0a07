use Rattle.audit_core.proofs.OneLine.{plain_frame, plain_reading}
use Rattle.audit_core.proofs.laws.frames_and_readings_are_one_line.Goals as goal

pub returns-clause-frame : goal.returns-clause-frame
returns-clause-frame c = plain_frame

pub returns-clause-reading : goal.returns-clause-reading
returns-clause-reading c = plain_reading
