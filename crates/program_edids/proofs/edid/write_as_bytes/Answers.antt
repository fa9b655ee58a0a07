use Rattle.std.proofs.Common.{sym}
use Rattle.program_edids.proofs.edid.write_as_bytes.Goals as goal

pub returns : goal.returns
returns g c = (c.args.bytes.now, (c.in_ok-is_edid.ensures.0, c.in_ok-is_edid.ensures.1, sym c.in_ok-is_edid.ensures.1), c.in_ok-put_all.ensures.ok)
