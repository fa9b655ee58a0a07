use Rattle.std.proofs.Common.{ap}
use Rattle.conversion_calls.specs.Form.{hex_line}
use Rattle.program_edids.proofs.edid.Blocks.write_counted_hex.Goals as goal

pub returns : goal.returns
returns g c = (hex_line c.as_slice.result.now, (c.in_ok-mended.mended.items, c.in_ok-mended.ensures, ap hex_line c.as_slice.ensures.value), c.in_ok-write_hex_line.ensures.0)
