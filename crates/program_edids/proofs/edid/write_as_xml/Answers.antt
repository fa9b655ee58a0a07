use Rattle.std.proofs.Common.{ap, sym}
use Rattle.conversion_calls.specs.Programs.{xml_text}
use Rattle.program_edids.proofs.edid.write_as_xml.Goals as goal

pub returns : goal.returns
returns g c = (xml_text c.args.bytes.now, (c.in_ok-is_edid.ensures.0, c.in_ok-is_edid.ensures.1, ap xml_text (sym c.in_ok-is_edid.ensures.1)), c.in_ok-write_xml.ensures.0)
