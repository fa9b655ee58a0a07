use Rattle.meaning_base.specs.Established.{established_rows}
use Rattle.edid_laws.proofs.Tables.{lines_of_bits}
use Rattle.edid_laws.proofs.table_laws.a_line_for_each_established_timing.Goals as goal

pub returns : goal.returns
returns c = lines_of_bits established_rows
