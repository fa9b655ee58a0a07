use Rattle.std.proofs.Common.{Ok, Err}
use Rattle.edid_core.proofs.OneEdid.{only}
use Rattle.edid_core.proofs.bytes.edid_from_bytes.Goals as goal

-- no other EDID has these bytes, and none where they are refused

pub returns-in-Err-clause-only : goal.returns-in-Err-clause-only
returns-in-Err-clause-only c = λ e h. only c.args.bytes.now (Err c.in-Err.error) tt c.in-Err.ensures.refused e h

pub returns-in-Ok-clause-only : goal.returns-in-Ok-clause-only
returns-in-Ok-clause-only c = λ e h. only c.args.bytes.now (Ok _) c.in-Ok.ensures.found tt e h
