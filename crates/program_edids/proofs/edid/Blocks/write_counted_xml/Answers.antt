use Rattle.std.proofs.Common.{ap}
use Rattle.conversion_calls.specs.Programs.{xml_text}
use Rattle.program_edids.proofs.edid.Blocks.write_counted_xml.Goals as goal

pub returns : goal.returns
returns g c = (xml_text c.as_slice-bytes.result.now, (c.in_ok-mended.mended.items, c.in_ok-mended.ensures, ap xml_text c.as_slice-bytes.ensures.value), c.in_ok-write_xml.ensures.0)
