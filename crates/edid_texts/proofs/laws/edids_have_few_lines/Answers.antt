use Rattle.edid_texts.proofs.Gets.{few_parts}
use Rattle.edid_texts.proofs.laws.edids_have_few_lines.Goals as goal

pub returns : goal.returns
returns c = few_parts
