use Rattle.audit_pieces.proofs.Framed as Framed
use Rattle.audit_pieces.proofs.laws.frames_are_pieces.Goals as goal

pub returns : goal.returns
returns c = Framed.frames_are_pieces
