use Rattle.conversion_calls.proofs.RowTexts.{some_left, xml_more}
use Rattle.conversion_calls.proofs.programs.+append_xml_blocks.Goals as goal

pub returns-clause-items : goal.returns-clause-items
returns-clause-items t c =
    xml_more c.args.text.now.items c.append_xml_block.new.text.items c.append_xml_blocks.new.text.items c.args.count c.args.number c.args.bytes.now
    (some_left c.args.count c.if-count-eq0.false) (rw c.split_at.ensures.front at c.append_xml_block.ensures.items) (rw c.split_at.ensures.back at c.append_xml_blocks.ensures.items)
