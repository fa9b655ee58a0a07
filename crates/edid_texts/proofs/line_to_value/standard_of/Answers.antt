use Rattle.edid_texts.proofs.LineParts.{no_standard}
use Rattle.edid_texts.proofs.line_to_value.standard_of.Goals as goal

pub returns-in_default-numbers_of : goal.returns-in_default-numbers_of
returns-in_default-numbers_of c = λ s e. no_standard c.args.line.now s c.in_default.ensures c.in_default-numbers_of.ensures e
