use Rattle.std.proofs.Common.{rules, ◌≡◌, ◌+◌, ◌∷◌, subst, sym}
use Rattle.text_core.specs.Adds.{Adds}
use Rattle.text_core.proofs.Adding.{then}
use Rattle.capture_wires.specs.Wires.{change_text, changes_from}
use Rattle.capture_wires.proofs.instants.+add_changes.Goals as goal

pub returns : goal.returns
returns g t c =
    let split : c.args.drives.now ≡ c.in-Some.drive.now ∷ c.in-Some.others.now = search rules in
    let first : Adds c.args.out.now c.add_change.new.out (change_text c.args.t c.args.number c.in-Some.drive.now) = rw (← c.as_slice.ensures) c.add_change.ensures in
    subst (λ ws. Adds c.args.out.now c.add_changes.new.out (changes_from c.args.t c.args.number ws)) (sym split)
    (then _ _ _ (change_text c.args.t c.args.number c.in-Some.drive.now) (changes_from c.args.t (c.args.number + 1) c.in-Some.others.now) first c.add_changes.ensures)
