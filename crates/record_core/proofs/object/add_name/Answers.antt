use Rattle.std.proofs.Common.{rules, ◌≡◌, ℕ, List, subst}
use Rattle.text_core.specs.Adds.{Adds}
use Rattle.text_core.proofs.Adding.{then}
use Rattle.record_core.proofs.object.add_name.Goals as goal

pub returns : goal.returns
returns g c =
    let same : c.as_bytes.result.now ≡ c.args.name.now = search rules in
    let name = subst (λ (t : List ℕ). Adds c.add.new.self c.add-2.new.self t) same c.add-2.ensures in
    then _ _ _ _ _ c.add.ensures (then _ _ _ _ _ name c.add-3.ensures)
