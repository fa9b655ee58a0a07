use Rattle.std.proofs.Common.{[], ◌∷◌, ◌++◌, codes}
use Rattle.std.specs.List.{flat_map}
use Rattle.capture_wires.proofs.Noting.{then}
use Rattle.capture_wires.specs.Noted.{escaped}
use Rattle.capture_wires.proofs.noted.add_note.Goals as goal

pub returns : goal.returns
returns g c =
    let text = flat_map escaped c.args.note.now.text.now in
    let end = 32 ∷ c.args.note.now.id ∷ 10 ∷ [] in
    then _ _ _ (codes "s") (text ++ end) c.add.ensures (then _ _ _ text end c.add_text.ensures c.add_id.ensures)
