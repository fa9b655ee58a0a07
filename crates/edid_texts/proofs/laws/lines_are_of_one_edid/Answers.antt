use Rattle.edid_texts.proofs.OneLines.{one_lines}
use Rattle.edid_texts.proofs.laws.lines_are_of_one_edid.Goals as goal

pub returns : goal.returns
returns c = one_lines
