use Rattle.std.proofs.Common.{rules}
use Rattle.meaning_fields.specs.Luminance.{luminance}
use Rattle.meaning_fields.proofs.brightness.luminance.Goals as goal

pub returns : goal.returns
unfolding luminance
returns c = search rules
