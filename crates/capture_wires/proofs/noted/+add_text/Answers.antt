use Rattle.std.proofs.Common.{rules, ◌≡◌, ◌∷◌, subst, sym}
use Rattle.std.specs.List.{flat_map}
use Rattle.text_core.specs.Adds.{Adds}
use Rattle.capture_wires.proofs.Noting.{then}
use Rattle.capture_wires.specs.Noted.{escaped}
use Rattle.capture_wires.proofs.noted.+add_text.Goals as goal

pub returns : goal.returns
returns g t c =
    let split : c.args.text.now ≡ c.in-Some.byte.now ∷ c.in-Some.others.now = search rules in
    subst (λ text. Adds c.args.out.now c.add_text.new.out (flat_map escaped text)) (sym split)
    (then _ _ _ (escaped c.in-Some.byte.now) (flat_map escaped c.in-Some.others.now) c.add_escaped.ensures c.add_text.ensures)
