use Rattle.std.proofs.Common.{ap, sym}
use Rattle.conversion_calls.specs.Programs.{c_text}
use Rattle.program_edids.proofs.edid.write_as_c.Goals as goal

pub returns : goal.returns
returns g c = (c_text c.args.bytes.now, (c.in_ok-is_edid.ensures.0, c.in_ok-is_edid.ensures.1, ap c_text (sym c.in_ok-is_edid.ensures.1)), c.in_ok-write_c.ensures.0)
