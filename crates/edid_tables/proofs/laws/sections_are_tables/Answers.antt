use Rattle.edid_tables.proofs.AreSections.{are_tables}
use Rattle.edid_tables.proofs.laws.sections_are_tables.Goals as goal

pub returns : goal.returns
returns c = are_tables
