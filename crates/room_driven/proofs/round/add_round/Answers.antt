use Rattle.std.proofs.Common.{◌++◌, ◌∷◌, ◌∙◌, [], List, ℕ, ap, subst}
use Rattle.text_core.specs.Adds.{Adds}
use Rattle.line_wave.specs.declared.Stretch.{Stretch}
use Rattle.room_driven.specs.Named.{round_of}
use Rattle.room_driven.proofs.SameLines.{drives_told}
use Rattle.room_driven.proofs.round.add_round.Goals as goal

pub returns : goal.returns
returns g c =
    subst (λ (text : List ℕ). Adds c.args.out.now c.add_round_wires.new.out text)
    (ap (λ (ds : List (List Stretch)). round_of c.args.wires (ds ++ c.begun_within-begun.result.now ∷ []) c.args.begin c.args.outcome.now) c.deref.ensures.0
    ∙ drives_told c.args.wires c.args.seats.now c.args.begin c.args.pulses.now c.args.outcome.now c.put_drives.new.drives.items c.begun_within-begun.result.now
    c.put_drives.ensures c.begun_within-begun.ensures.ruled c.requires.round)
    c.add_round_wires.ensures
