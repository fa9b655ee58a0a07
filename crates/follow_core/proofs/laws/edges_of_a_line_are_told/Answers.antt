use Rattle.follow_core.proofs.Followed.{told_passed, turn_with}
use Rattle.follow_core.proofs.laws.edges_of_a_line_are_told.Goals as goal

pub returns-clause-passed : goal.returns-clause-passed
returns-clause-passed c = told_passed

pub returns-clause-calm : goal.returns-clause-calm
returns-clause-calm c = turn_with
