use Rattle.audit_pieces.specs.Pieces.{parts_of}
use Rattle.capture_replay.proofs.Playing.{whole_piece}
use Rattle.capture_replay.proofs.piece.add_piece.Goals as goal

pub returns : goal.returns
returns g c =
    whole_piece c.args.address (parts_of c.args.piece.now.parts) c.sides_of-sides.result c.as_slice-slots.result.now
    c.args.out.now c.add_drive.new.out c.add_slots.new.out c.add_broken.new.out
    c.args.counts.now c.add_drive.new.counts c.add_slots.new.counts c.add_broken.new.counts c.leave_out.new.self
    c.sides_of-sides.ensures c.as_slice-slots.ensures.value c.add_drive.ensures c.add_slots.ensures c.add_broken.ensures c.leave_out.ensures
