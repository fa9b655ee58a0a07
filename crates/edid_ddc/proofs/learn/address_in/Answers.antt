use Rattle.std.proofs.Common.{sym}
use Rattle.edid_ddc.proofs.learn.address_in.Goals as goal

pub returns-in-None-clause-refused : goal.returns-in-None-clause-refused
returns-in-None-clause-refused c = (c.in-Ok.edid, c.in-Ok.ensures.found, sym c.in-None.ensures)

pub returns-in-Some-clause-reported : goal.returns-in-Some-clause-reported
returns-in-Some-clause-reported c = (c.in-Ok.edid, c.in-Ok.ensures.found, sym c.in-Some.ensures)
