use Rattle.edid_difference.proofs.Beside.{exchanges, firsts_stand, seconds_stand}
use Rattle.edid_difference.proofs.laws.parts_stand_side_by_side.Goals as goal

pub returns-clause-firsts : goal.returns-clause-firsts
returns-clause-firsts c = firsts_stand

pub returns-clause-seconds : goal.returns-clause-seconds
returns-clause-seconds c = seconds_stand

pub returns-clause-exchanged : goal.returns-clause-exchanged
returns-clause-exchanged c = exchanges
