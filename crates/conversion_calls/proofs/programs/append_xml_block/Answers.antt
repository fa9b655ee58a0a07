use Rattle.std.proofs.Common.{codes, flat_map}
use Rattle.conversion_calls.proofs.RowTexts.{four_parts}
use Rattle.conversion_calls.specs.Programs.{xml_byte, xml_tag}
use Rattle.conversion_calls.proofs.programs.append_xml_block.Goals as goal

pub returns-clause-items : goal.returns-clause-items
returns-clause-items c =
    four_parts c.args.text.now.items (xml_tag (codes "        <BLOCK") c.args.number) (flat_map xml_byte c.args.bytes.now) (xml_tag (codes "</BLOCK") c.args.number) (codes "\n") _ _ _ _
    c.append_xml_tag.ensures.items c.append_xml_bytes.ensures.items c.append_xml_tag-2.ensures.items c.append.ensures.items
