use Rattle.capture_laws.proofs.Formats as Formats
use Rattle.capture_laws.proofs.ReadBack as ReadBack
use Rattle.capture_laws.proofs.laws.waves_are_captures.Goals as goal

pub returns-clause-line : goal.returns-clause-line
returns-clause-line c = ReadBack.same_line

pub returns-clause-capture : goal.returns-clause-capture
returns-clause-capture c = Formats.is_capture
