use Rattle.std.proofs.Common.{rules}
use Rattle.rules_rates.specs.Formats.{some_bit_outside}
use Rattle.rules_rates.proofs.formats.some_bit_outside.Goals as goal

pub returns : goal.returns
unfolding some_bit_outside
returns c = search rules
