use Rattle.edid_core.proofs.Lengths.{counted, length_is}
use Rattle.edid_core.proofs.laws.lengths_are_of_whole_blocks.Goals as goal

pub returns-clause-blocks : goal.returns-clause-blocks
returns-clause-blocks c = counted

pub returns-clause-known : goal.returns-clause-known
returns-clause-known c = length_is
