use Rattle.edid_laws.proofs.Tables.{codes_rise, found}
use Rattle.edid_laws.proofs.table_laws.a_code_has_one_format.Goals as goal

pub returns-clause-rising : goal.returns-clause-rising
returns-clause-rising c = codes_rise

pub returns-clause-found : goal.returns-clause-found
returns-clause-found c = found
