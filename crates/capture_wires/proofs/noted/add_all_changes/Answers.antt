use Rattle.std.proofs.Common.{◌+◌, [], ◌∷◌, ◌++◌, length, arith, subst, sym}
use Rattle.text_core.specs.Adds.{Adds}
use Rattle.capture_wires.specs.Wires.{change_text, changes_from}
use Rattle.capture_wires.proofs.Left.{changes_end}
use Rattle.capture_wires.proofs.Noting.{then}
use Rattle.capture_wires.proofs.noted.add_all_changes.Goals as goal

pub returns : goal.returns
returns g c =
    let number = length c.args.wires.now.drives.now + 1 in
    then _ _ _ (change_text c.args.t 0 c.args.wires.now.line.now) (changes_from c.args.t 1 (c.args.wires.now.drives.now ++ c.args.wires.now.pulses.now ∷ [])) c.add_change.ensures
    (subst (Adds c.add_change.new.out c.add_change-2.new.out) (sym (changes_end c.args.t 1 number c.args.wires.now.drives.now c.args.wires.now.pulses.now (omega arith)))
    (then _ _ _ (changes_from c.args.t 1 c.args.wires.now.drives.now) (change_text c.args.t number c.args.wires.now.pulses.now) c.add_changes.ensures c.add_change-2.ensures))
