use Rattle.std.proofs.Common.{◌-◌, [], ◌∷◌, ◌++◌, subst}
use Rattle.text_core.specs.Adds.{Adds}
use Rattle.capture_wires.proofs.Noting.{no_notes}
use Rattle.capture_wires.proofs.noted.add_wires.Goals as goal

pub returns : goal.returns
returns g c =
    subst (Adds c.args.out.now c.add_noted_wires.new.out) (no_notes (c.args.line.now ∷ (c.args.drives.now ++ c.args.pulses.now ∷ [])) c.args.from (c.args.to - c.args.from))
    c.add_noted_wires.ensures
