use Rattle.line_reading.proofs.OneByOne as OneByOne
use Rattle.line_reading.proofs.laws.readings_end_one_by_one.Goals as goal

pub returns : goal.returns
returns c = OneByOne.ends_one_by_one
