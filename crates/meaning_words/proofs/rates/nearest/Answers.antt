use Rattle.std.proofs.Common.{rules}
use Rattle.meaning_words.specs.Rates.{nearest}
use Rattle.meaning_words.proofs.rates.nearest.Goals as goal

pub returns-clause-value : goal.returns-clause-value
unfolding nearest
returns-clause-value c = search rules
