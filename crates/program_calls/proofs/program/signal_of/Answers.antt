use Rattle.std.proofs.Common.{ap, sym}
use Rattle.program_captures.specs.Captures.{name_of}
use Rattle.program_calls.proofs.program.signal_of.Goals as goal

pub returns-in-None : goal.returns-in-None
returns-in-None c = ap name_of (sym c.in-None.ensures)
