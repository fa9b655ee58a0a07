use Rattle.infoframe_tables.proofs.AreFrames.{are_tables}
use Rattle.infoframe_tables.proofs.laws.frames_are_tables.Goals as goal

pub returns : goal.returns
returns c = are_tables
