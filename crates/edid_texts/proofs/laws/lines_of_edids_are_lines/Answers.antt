use Rattle.edid_texts.proofs.CutTexts.{edid_are_lines}
use Rattle.edid_texts.proofs.laws.lines_of_edids_are_lines.Goals as goal

pub returns : goal.returns
returns c = edid_are_lines
