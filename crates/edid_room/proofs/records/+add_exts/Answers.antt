use Rattle.std.proofs.Common.{refl, ◌+◌}
use Rattle.std.proofs.lemmas.List.{take_rest}
use Rattle.edid_room.proofs.Adding.{first_then}
use Rattle.edid_room.specs.Records.{ext_record, exts_records}
use Rattle.edid_room.proofs.records.+add_exts.Goals as goal

pub returns-in-len1-up : goal.returns-in-len1-up
returns-in-len1-up g t c =
    let n = c.args.number in
    first_then (ext_record c.args.form n) (exts_records c.args.form (n + 1)) (exts_records c.args.form n) (λ y ys. refl) c.args.extensions.now c.ext-item.result _ _ _ _
    c.in-len1-up.len_at_least c.ext-item.is c.add_ext.ensures (rw take_rest at c.add_exts.ensures)
