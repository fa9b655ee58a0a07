use Rattle.capture_through.proofs.Steps.{from_zero, turn_from}
use Rattle.capture_through.proofs.laws.edges_come_from_an_instant.Goals as goal

pub returns-clause-zero : goal.returns-clause-zero
returns-clause-zero c = from_zero

pub returns-clause-turn : goal.returns-clause-turn
returns-clause-turn c = turn_from
