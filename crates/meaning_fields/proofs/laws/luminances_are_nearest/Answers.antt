use Rattle.std.proofs.Common.{refl}
use Rattle.meaning_fields.proofs.laws.luminances_are_nearest.Goals as goal

pub returns : goal.returns
returns c = refl
