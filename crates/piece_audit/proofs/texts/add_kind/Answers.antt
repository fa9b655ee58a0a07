use Rattle.piece_audit.proofs.texts.add_kind.Goals as goal

pub returns : goal.returns
returns g c = rw c.width_remark.ensures at c.add_width_part.ensures
