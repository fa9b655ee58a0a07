use Rattle.std.proofs.Common.{rules}
use Rattle.rules_rates.specs.Paces.{pace_of}
use Rattle.rules_rates.proofs.paces.pace_of.Goals as goal

pub returns : goal.returns
unfolding pace_of
returns c = search rules
