use Rattle.std.proofs.Common.{List, ℕ, subst}
use Rattle.text_core.specs.Adds.{Adds}
use Rattle.conversion_fields.specs.Parts.{parts_text}
use Rattle.conversion_fields.specs.Whole.{sections_of}
use Rattle.conversion_fields.proofs.whole.add_base.Goals as goal

pub returns : goal.returns
unfolding sections_of
returns g c = subst (λ (p : List ℕ). Adds c.args.out.now c.add_cut.new.out (parts_text 0 (sections_of p))) c.write_base.ensures c.add_cut.ensures
