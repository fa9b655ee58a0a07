use Rattle.std.proofs.Common.{refl}
use Rattle.meaning_words.specs.Rates.{nearest}
use Rattle.meaning_fields.specs.Luminance.{fine_luminance}
use Rattle.meaning_fields.proofs.laws.least_luminances_are_nearest.Goals as goal

pub returns : goal.returns
unfolding fine_luminance nearest
returns c = refl
