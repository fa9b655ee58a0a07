use Rattle.edid_laws.proofs.Tables.{has_height}
use Rattle.edid_laws.proofs.table_laws.standard_timings_have_lines.Goals as goal

pub returns : goal.returns
returns c = has_height
