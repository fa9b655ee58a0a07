use Rattle.std.proofs.Common.{sym, ◌∙◌}
use Rattle.capture_replay.proofs.Playing.{one_drives, pulled}
use Rattle.capture_replay.proofs.piece.add_slot.Goals as goal

pub returns-then-is_pulled : goal.returns-then-is_pulled
returns-then-is_pulled g c =
    pulled c.args.address c.args.sides c.args.k c.args.slot c.args.out.now c.add_pulled.new.out c.args.counts.now c.add_pulled.new.counts (sym c.is_pulled.ensures ∙ c.if-is_pulled.true) c.add_pulled.ensures

pub returns-else-is_pulled : goal.returns-else-is_pulled
returns-else-is_pulled g c =
    one_drives c.args.address c.args.sides c.args.k c.args.slot c.low_of.result c.args.out.now c.add_drive.new.out c.args.counts.now c.add_drive.new.counts c.low_of.ensures
    (sym c.is_pulled.ensures ∙ c.if-is_pulled.false) c.add_drive.ensures
