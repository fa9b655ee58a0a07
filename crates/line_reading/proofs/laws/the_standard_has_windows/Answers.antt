use Rattle.line_reading.proofs.Standard as Standard
use Rattle.line_reading.proofs.laws.the_standard_has_windows.Goals as goal

pub returns : goal.returns
returns c = Standard.standard_are
