use Rattle.std.proofs.Common.{rules}
use Rattle.meaning_extended.specs.Lights.{peak}
use Rattle.meaning_extended.proofs.lights.peak.Goals as goal

pub returns-clause-value : goal.returns-clause-value
unfolding peak
returns-clause-value c = search rules
