use Rattle.std.proofs.lemmas.List.{take_rest}
use Rattle.room_trace.proofs.Told.{sent_first}
use Rattle.room_trace.proofs.notes.+add_sent_notes.Goals as goal

pub returns : goal.returns
returns g t c =
    sent_first c.args.form c.args.outcome.now c.args.number c.device-item.result _ c.args.devices.now c.args.out.now c.add_sent_of.new.out c.add_sent_notes.new.out
    c.in-len1-up.len_at_least c.device-item.is c.add_sent_of.ensures (rw take_rest at c.add_sent_notes.ensures)
