use Rattle.conversion_calls.proofs.programs.+append_xml_blocks.Given as goal

abbrev pub decreases-append_xml_blocks : goal.decreases-append_xml_blocks
decreases-append_xml_blocks l = l.count
