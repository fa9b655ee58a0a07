use Rattle.line_reading.proofs.Lists as Lists
use Rattle.line_reading.proofs.laws.lists_are_causal.Goals as goal

pub returns : goal.returns
returns c = Lists.lists_alike
