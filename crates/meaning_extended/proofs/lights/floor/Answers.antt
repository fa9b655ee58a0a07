use Rattle.std.proofs.Common.{rules}
use Rattle.meaning_extended.specs.Lights.{floor}
use Rattle.meaning_extended.proofs.lights.floor.Goals as goal

pub returns-clause-value : goal.returns-clause-value
unfolding floor
returns-clause-value c = search rules
