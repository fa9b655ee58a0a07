use Rattle.capture_laws.proofs.Dumps as lemmas
use Rattle.capture_laws.proofs.drive_laws.dumps_are_read_as_lines.Goals as goal

pub returns : goal.returns
returns c = lemmas.dumps_are_read_as_lines
