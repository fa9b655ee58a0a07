use Rattle.edid_texts.proofs.LineParts.{none_of_all}
use Rattle.edid_texts.proofs.line_to_value.descriptor_of.Goals as goal

pub returns-in-None : goal.returns-in-None
returns-in-None c = λ d e. none_of_all c.args.line.now d c.in_default.ensures c.in_default-text_of.ensures c.in_default-text_of-2.ensures c.in_default-text_of-3.ensures c.in_default-range_of.ensures c.if-is_dummy.ensures c.in-None.ensures e
