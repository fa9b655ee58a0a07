use Rattle.std.proofs.Common.{◌++◌, ◌∙◌, List, ap}
use Rattle.line_wave.specs.declared.Stretch.{Stretch}
use Rattle.room_drives.specs.Stretches.{drives_from}
use Rattle.room_drives.proofs.Whole.{of_seats}
use Rattle.room_drives.proofs.drives.put_drives.Goals as goal

pub returns : goal.returns
returns c =
    of_seats c.args.seats.now c.args.begin c.args.outcome.now c.push_drives.new.drives.items
    (c.push_drives.ensures.drives ∙ ap (λ (ds : List (List Stretch)). ds ++ drives_from c.args.begin c.args.outcome.now 0 c.args.seats.now) c.requires.fresh)
