use Rattle.std.proofs.lemmas.List.{take_rest}
use Rattle.capture_replay.proofs.Playing.{first_slot}
use Rattle.capture_replay.proofs.piece.+add_slots.Goals as goal

pub returns-in-len1-up : goal.returns-in-len1-up
returns-in-len1-up g t c =
    first_slot c.args.address c.args.sides c.args.k c.args.slots.now _ c.args.out.now c.add_slot.new.out c.add_slots.new.out c.args.counts.now c.add_slot.new.counts c.add_slots.new.counts
    c.in-len1-up.len_at_least c.add_slot.ensures (rw take_rest at c.add_slots.ensures)
