use Rattle.std.proofs.Common.{ℕ, ◌≤◌, sym, subst}
use Rattle.audit_pieces.specs.Pieces.{parts_of}
use Rattle.audit_pieces.proofs.Room as Room
use Rattle.audit_pieces.proofs.piece.Parts.add.Goals as goal

pub add_slot-requires : goal.add_slot-requires
add_slot-requires c =
    Room.room (parts_of c.args.self.now) c.args.stretch (sym c.in-InSlot.ensures) (subst (λ (n : ℕ). n ≤ 160) c.len-count.ensures.value c.len-count.ensures.fits)

pub add_late-requires : goal.add_late-requires
add_late-requires c = Room.has_one (parts_of c.args.self.now) c.args.stretch (sym c.in-Late.ensures)
