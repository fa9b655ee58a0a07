use Rattle.std.proofs.Common.{slice_index_or, false, ℕ}
use Rattle.std.proofs.lemmas.List.{take_rest}
use Rattle.room_trace.proofs.Told.{moved_first}
use Rattle.room_trace.proofs.notes.+add_moved_notes.Goals as goal

pub returns : goal.returns
returns g t c =
    moved_first c.args.form (λ (device : ℕ). slice_index_or c.args.was.now device false) c.args.number c.was_on.result c.device-item.result _ c.args.devices.now
    c.args.out.now c.add_moved.new.out c.add_moved_notes.new.out
    c.in-len1-up.len_at_least c.device-item.is c.was_on.ensures c.add_moved.ensures (rw take_rest at c.add_moved_notes.ensures)
