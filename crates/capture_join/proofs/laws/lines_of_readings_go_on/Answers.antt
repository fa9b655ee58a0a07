use Rattle.capture_join.proofs.JoinedLines.{begun_more, begun_none, lines_from_more, no_lines_from, none_joined}
use Rattle.capture_join.proofs.laws.lines_of_readings_go_on.Goals as goal

pub returns-clause-lines : goal.returns-clause-lines
returns-clause-lines c = lines_from_more

pub returns-clause-begun : goal.returns-clause-begun
returns-clause-begun c = begun_more

pub returns-clause-none_begun : goal.returns-clause-none_begun
returns-clause-none_begun c = begun_none

pub returns-clause-none_lines : goal.returns-clause-none_lines
returns-clause-none_lines c = no_lines_from

pub returns-clause-all : goal.returns-clause-all
returns-clause-all c = none_joined
