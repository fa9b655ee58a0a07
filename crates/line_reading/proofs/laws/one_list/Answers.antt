use Rattle.line_reading.proofs.Lists as Lists
use Rattle.line_reading.proofs.laws.one_list.Goals as goal

pub returns : goal.returns
returns c = Lists.one_list
