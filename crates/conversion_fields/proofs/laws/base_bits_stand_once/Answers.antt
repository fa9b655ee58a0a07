use Rattle.std.proofs.Common.{ℕ, List, subst}
use Rattle.conversion_fields.specs.Parts.{Tiled}
use Rattle.conversion_fields.specs.Whole.{sections_of}
use Rattle.conversion_fields.proofs.laws.base_bits_stand_once.Goals as goal

pub returns : goal.returns
returns c = subst (λ (p : List ℕ). Tiled 0 (sections_of p) p) c.write_base.ensures c.sections_bits_stand_once.ensures
