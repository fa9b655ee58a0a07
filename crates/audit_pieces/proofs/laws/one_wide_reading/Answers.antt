use Rattle.audit_pieces.proofs.Parted as Parted
use Rattle.audit_pieces.proofs.laws.one_wide_reading.Goals as goal

pub returns : goal.returns
returns c = Parted.one_wide
