use Rattle.library_wire.proofs.Puts.{edid_of}
use Rattle.library_wire.proofs.edids.edid_fault.Goals as goal

pub returns-in-Ok-clause-found : goal.returns-in-Ok-clause-found
returns-in-Ok-clause-found c = λ zero. edid_of c.in-Ok._base c.read_parts.new.extensions c.args.bytes.now c.in-Ok.ensures.found c.in-Ok.ensures.counted c.in-Ok.ensures.few
