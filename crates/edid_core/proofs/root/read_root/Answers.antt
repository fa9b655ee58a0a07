use Rattle.std.proofs.Common.{sym}
use Rattle.edid_core.proofs.root.read_root.Goals as goal

pub returns-in-None-clause-refused : goal.returns-in-None-clause-refused
returns-in-None-clause-refused c = (c.in-Ok.root, c.in-Ok.ensures.found, sym c.in-None.ensures)
