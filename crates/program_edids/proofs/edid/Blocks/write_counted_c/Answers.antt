use Rattle.std.proofs.Common.{ap}
use Rattle.conversion_calls.specs.Programs.{c_text}
use Rattle.program_edids.proofs.edid.Blocks.write_counted_c.Goals as goal

pub returns : goal.returns
returns g c = (c_text c.as_slice-bytes.result.now, (c.in_ok-mended.mended.items, c.in_ok-mended.ensures, ap c_text c.as_slice-bytes.ensures.value), c.in_ok-write_c.ensures.0)
