use Rattle.std.proofs.Common.{[], ◌∷◌, ◌++◌, codes, map}
use Rattle.std.specs.Fmt.{decimal}
use Rattle.std.specs.List.{concat}
use Rattle.capture_wires.proofs.Noting.{then}
use Rattle.capture_wires.specs.Noted.{noted, notes_at}
use Rattle.capture_wires.specs.Wires.{changes_from}
use Rattle.capture_wires.proofs.noted.add_timed.Goals as goal

pub returns : goal.returns
returns g c =
    let time = concat (codes "#" ∷ decimal c.args.t ∷ codes "\n" ∷ []) in
    let changes = changes_from c.args.t 0 (c.args.wires.now.line.now ∷ (c.args.wires.now.drives.now ++ c.args.wires.now.pulses.now ∷ [])) in
    then _ _ _ (time ++ changes) (notes_at c.args.t (map noted c.args.wires.now.notes.now))
    (then _ _ _ time changes c.add_time.ensures c.add_all_changes.ensures) c.add_notes_at.ensures
