use Rattle.std.proofs.Common.{[], ◌∷◌, codes, subst}
use Rattle.std.specs.List.{concat}
use Rattle.text_core.specs.Adds.{Adds}
use Rattle.capture_wires.proofs.definitions.add_variable.Goals as goal

pub returns : goal.returns
returns g c =
    subst (λ i. Adds c.args.out.now c.add_named.new.out (concat (codes "$var wire 1 " ∷ (i ∷ []) ∷ codes " " ∷ c.args.name.now ∷ codes " $end\n" ∷ [])))
    c.id_of.ensures c.add_named.ensures
