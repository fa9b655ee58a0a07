use Rattle.edid_base.proofs.Only.{only}
use Rattle.edid_base.proofs.base_block.read_base.Goals as goal

pub returns-clause-only : goal.returns-clause-only
returns-clause-only c = only c.args.bytes.now c.read.result c.read.ensures.read c.read.ensures.refused
