use Rattle.audit_pieces.proofs.Parted as Parted
use Rattle.audit_pieces.proofs.laws.pieces_are_all.Goals as goal

pub returns : goal.returns
returns c = Parted.are_all
