use Rattle.std.proofs.Common.{rules}
use Rattle.meaning_fields.specs.Luminance.{fine_luminance}
use Rattle.meaning_fields.proofs.brightness.fine_luminance.Goals as goal

pub returns-clause-value : goal.returns-clause-value
unfolding fine_luminance
returns-clause-value c = search rules
