use Rattle.std.proofs.Common.{ap, sym}
use Rattle.conversion_calls.specs.Form.{hex_line}
use Rattle.program_edids.proofs.edid.write_as_hex.Goals as goal

pub returns : goal.returns
returns g c = (hex_line c.args.bytes.now, (c.in_ok-is_edid.ensures.0, c.in_ok-is_edid.ensures.1, ap hex_line (sym c.in_ok-is_edid.ensures.1)), c.in_ok-write_hex_line.ensures.0)
