use Rattle.line_reading.proofs.Search as Search
use Rattle.line_reading.proofs.laws.searches_find_the_first.Goals as goal

pub returns-clause-found : goal.returns-clause-found
returns-clause-found c = Search.found_first

pub returns-clause-missed : goal.returns-clause-missed
returns-clause-missed c = Search.found_none

pub returns-clause-first : goal.returns-clause-first
returns-clause-first c = Search.first_in_some

pub returns-clause-none : goal.returns-clause-none
returns-clause-none c = Search.first_in_none

pub returns-clause-alike : goal.returns-clause-alike
returns-clause-alike c = Search.first_in_agree
