use Rattle.capture_join.proofs.Search.{found_later, joined_later, known_joined}
use Rattle.capture_join.proofs.laws.what_is_found_stays_first.Goals as goal

pub returns-clause-known : goal.returns-clause-known
returns-clause-known c = known_joined

pub returns-clause-later : goal.returns-clause-later
returns-clause-later c = found_later

pub returns-clause-last : goal.returns-clause-last
returns-clause-last c = joined_later
