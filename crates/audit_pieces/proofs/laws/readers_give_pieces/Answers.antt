use Rattle.audit_pieces.proofs.Parted as Parted
use Rattle.audit_pieces.proofs.laws.readers_give_pieces.Goals as goal

pub returns : goal.returns
returns c = Parted.readers_give_pieces
